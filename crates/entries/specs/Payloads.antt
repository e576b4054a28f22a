-- What the reader of entries answers from the kind on.
use Rattle.std.specs.Prelude.{ℕ, List, cond, eqb, length, Result, Ok, Err}
use Rattle.frames.specs.Bytes.{byte}
use Rattle.set_rules.specs.Entries.{ReadEntry, payload, payload_ok}
use Rattle.set_state.specs.declared.state.Refusal.{Refusal}
use Rattle.set_state.specs.declared.state.Refusal.TheVariants.{Payload}
use Rattle.set_state.specs.declared.state.Entry.{Entry}

-- what an entry of a kind asks for, or refusal 3
unfoldable pub payload_in : ℕ → List ℕ → ReadEntry
payload_in k e = cond (payload_ok k e) (payload k e) (Err Payload)

-- the channel of a kind whose payload is one
unfoldable pub line_in : List ℕ → Result ℕ Refusal
line_in e = cond (eqb (length e) 5) (Ok (byte e 4)) (Err Payload)

-- an entry of a kind without payload
unfoldable pub bare_in : Entry → List ℕ → ReadEntry
bare_in x e = cond (eqb (length e) 4) (Ok x) (Err Payload)
