-- The space of what a channel sends, send by send.
-- Assumes nothing.
use Prim.Native.Nat.{ℕ, ◌+◌, ◌*◌, ◌≤◌, ◌<◌}
use mathlib.Core.List.{List}
use mathlib.Core.Path.{◌≡◌, refl, ap, ◌∙◌}
use native.Mathlib.Numerals.{add-one}
use native.Mathlib.Omega.{arith}
use lib.Count.{ones_in}
use lib.ListN.{length, drop, get_or, drop_of_length-le}
use lib.Seq.{drop-cons}
use Rattle.line_rules.specs.Notices.{content_for}
use Rattle.channel.specs.declared.state.Send.{Send}
use Rattle.set_state.specs.State.{own_of}
use Rattle.set_rules.specs.Records.{delivered, record_size, space_of}
use Rattle.set_state.specs.declared.state.Desk.{Desk}
use Rattle.bodies.specs.Bodies.{shape_of, size_in}
use Rattle.bodies.specs.declared.body.Body.TheVariants.{About}
use Rattle.bodies.proofs.BodyLaws.{notice_size}

-- the space that the send at k adds to that of those after it
space-turn : (ds : List Desk) (ch : ℕ) (ss : List Send) (k : ℕ) (z : Send) → k < length ss
    → space_of (delivered ds ch (drop k ss)) ≡ ones_in 8 (get_or ss k z).recipients * record_size (content_for 0 (own_of ds 0) ch (get_or ss k z).notice) + space_of (delivered ds ch (drop (k + 1) ss))
unfolding space_of delivered
space-turn ds ch ss k z h = rw (add-one, drop-cons ss k z h) refl

-- a turn of the loop that sums up: `sum` so far, and `one` for the send at k, of the size that its notice has about any channel
pub space-next : (ds : List Desk) (ch : ℕ) (ss : List Send) (k : ℕ) (z : Send) (sum : ℕ) {one size total : ℕ}
    → k < length ss
    → sum + space_of (delivered ds ch (drop k ss)) ≡ total
    → size ≡ size_in (shape_of (About 0 (get_or ss k z).notice))
    → one ≡ ones_in 8 (get_or ss k z).recipients * size
    → sum + one + space_of (delivered ds ch (drop (k + 1) ss)) ≡ total
space-next ds ch ss k z sum {one} {size} {total} h e es eo =
    let turn = space-turn ds ch ss k z h in
    let same = es ∙ notice_size 0 (own_of ds 0) ch (get_or ss k z).notice in
    omega (arith, turn, eo ∙ ap (λ (n : ℕ). ones_in 8 (get_or ss k z).recipients * n) same, e)

pub space_end : (ds : List Desk) (ch : ℕ) (ss : List Send) (k : ℕ) → length ss ≤ k → space_of (delivered ds ch (drop k ss)) ≡ 0
unfolding space_of delivered
space_end ds ch ss k h = rw (drop_of_length-le ss h) refl
