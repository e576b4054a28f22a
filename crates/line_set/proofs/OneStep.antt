-- An entry about one channel: what is known before it is judged.
-- Assumes nothing.
use Prim.Native.Nat.{ℕ}
use mathlib.Core.List.{List}
use mathlib.Core.Bool.{Bool, true, cond}
use mathlib.Core.Logic.{◌⊎◌, inl, inr}
use mathlib.Core.Path.{◌≡◌, refl, sym, ap, ap₂, ◌∙◌}
use native.Mathlib.Omega.{arith}
use lib.Dec.{ltb}
use lib.ListN.{length, get_or}
use borrow.Author.Tests.{ltb-true}
use Rattle.std.specs.Prelude.{Ok}
use Rattle.laws.proofs.Lists.{at-taken}
use Rattle.channel.specs.declared.state.Channel.{Channel}
use Rattle.set_state.specs.State.{no_channel, channels_of, place_of}
use Rattle.set_rules.specs.Entries.{entry_kind}
use Rattle.set_state.specs.declared.state.Entry.{Entry}
use Rattle.set_state.specs.declared.state.Entry.TheVariants.{Telegram, Press, Cut, MobileOn, MobileOff, Tick, Plan, Handover, MobileCall, MobileCancel}
use Rattle.set_state.specs.declared.state.LineSet.{LineSet}
use Rattle.telegram_requests.specs.Asking.{code_of}
use Rattle.telegram_requests.specs.declared.request.Asked.TheVariants.{OfLine}
use Rattle.telegram_requests.specs.declared.request.LineRequest.{LineRequest}
use Rattle.requests.specs.Asking.{seen, asked_of}
use Rattle.judging.specs.Promises.{LineKind}
use Rattle.changes.specs.Changes.{Stands, Asks}

-- none of the kinds of the whole set
pub record Single (x : Entry) : Type 0 where
  pub no-plan : x ≡ Plan → ⊥
  pub no_handover : x ≡ Handover → ⊥
  pub no_tick : x ≡ Tick → ⊥

pub is_plan : (x : Entry) → entry_kind (Ok x) ≡ 7 → x ≡ Plan
unfolding entry_kind
is_plan (Telegram d) h = absurd (omega arith)
is_plan (Press d ch on) h = absurd (omega arith)
is_plan (Cut d ch) h = absurd (omega arith)
is_plan (MobileOn ch b n) h = absurd (omega arith)
is_plan (MobileOff ch) h = absurd (omega arith)
is_plan Tick h = absurd (omega arith)
is_plan Plan h = refl
is_plan Handover h = absurd (omega arith)
is_plan (MobileCall ch b n m) h = absurd (omega arith)
is_plan (MobileCancel ch) h = absurd (omega arith)

line-kind : (x : Entry) → Single x → (entry_kind (Ok x) ≡ 1) ⊎ LineKind (entry_kind (Ok x))
unfolding entry_kind
line-kind (Telegram d) w = inl refl
line-kind (Press d ch on) w = inr (inl refl)
line-kind (Cut d ch) w = inr (inr (inl refl))
line-kind (MobileOn ch b n) w = inr (inr (inr (inl refl)))
line-kind (MobileOff ch) w = inr (inr (inr (inr (inl refl))))
line-kind Tick w = absurd (w.no_tick refl)
line-kind Plan w = absurd (w.no-plan refl)
line-kind Handover w = absurd (w.no_handover refl)
line-kind (MobileCall ch b n m) w = inr (inr (inr (inr (inr (inl refl)))))
line-kind (MobileCancel ch) w = inr (inr (inr (inr (inr (inr refl)))))

-- a channel was sought, and its place is at hand
pub stands : (s : LineSet) (code count i place : ℕ) (c : Channel)
    → count ≡ length (channels_of s) → i ≡ place_of code (channels_of s) → place ≡ cond (ltb i count) i 0 → get_or s.channels place no_channel ≡ c
    → Stands s code place (ltb i count) c
stands s code count i place c is-count is-i is-place at =
    let found = ltb i count in
    let here : found ≡ true → place ≡ i = λ h. is-place ∙ rw h refl in
    record {
      at = at;
      is = ap₂ ltb is-i is-count;
      place_is = λ h. here h ∙ is-i;
      channel-is = λ h. sym at ∙ (ap (λ (j : ℕ). get_or s.channels j no_channel) (here h) ∙ (sym (at-taken s.channels s.size.channels i no_channel no_channel (omega (arith, ltb-true i count h, is-count))) ∙ ap (λ (j : ℕ). get_or (channels_of s) j no_channel) is-i));
    }

pub asks : (s : LineSet) (e : List ℕ) (x : Entry) (q : LineRequest) {place : ℕ} {found : Bool} {c : Channel}
    → ((found : Bool) (d : Channel) → (entry_kind (Ok x) ≡ 7 → ⊥) → Ok (OfLine q) ≡ asked_of (seen s.planned s.desks s.size.desks found d) e (Ok x))
    → Stands s (code_of q) place found c → Single x → Asks s e x q place found c
asks s e x q {place} {found} {c} is-q st single =
    record { asked = is-q found c (λ k. single.no-plan (is_plan x k)); stands = st; kinds = line-kind x single }
