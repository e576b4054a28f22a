-- Two theorems that ask much of a feed speak of something: isolation, of two feeds that differ in a mobile's number, talking or
-- ringing, and the marked row of the ticks.
use Rattle.std.specs.Prelude.{ℕ, List, [], ◌∷◌, ◌++◌, map, ◌≡◌, length, get_or, replicate, None, Some}
use Rattle.numerals.specs.Digits.{digits_of}
use Rattle.channel.specs.declared.state.Channel.{Channel}
use Rattle.set_state.specs.State.{new_set, no_channel}
use Rattle.set_rules.specs.Feeds.{Outcome, Item, step_by, run, after, Seen, views}
use Rattle.set_rules.specs.Spelling.{entry_of, lent, both_running, capture_entry, call_entry, ring_answer_entry}
use Rattle.set_rules.specs.Promises.{MayDiffer, Related}
use Rattle.set_rules.specs.Marked.{ticks_with}
use Rattle.set_rules.specs.Examples.{until_held, press_entry}

-- Two desks share channel 7, desk 0 holds it, and a mobile with a number keys up under it.
abbrev pub shared_feed : ℕ → List Item
shared_feed number = map lent (both_running ++ (capture_entry 7 ∷ entry_of 4 (7 ∷ 3 ∷ digits_of 8 number) ∷ []))

-- Two such feeds are related for desk 1 and are not the same. Desk 1 receives the 550651 of the capture, 34 bytes, and desk 0 does
-- get the number (`Witness.witness`).
pub record Speaks : Type 0 where
  pub related : Related 1 new_set new_set (shared_feed 990007) (shared_feed 990008)
  pub differ : shared_feed 990007 ≡ shared_feed 990008 → ⊥
  pub receives : map (λ (v : Seen). length v.records) (views 1 new_set (shared_feed 990007)) ≡ 21 ∷ 0 ∷ 21 ∷ 0 ∷ 0 ∷ 34 ∷ 0 ∷ []
  pub learns : views 0 new_set (shared_feed 990007) ≡ views 0 new_set (shared_feed 990008) → ⊥

-- ---- rings

-- Two desks share channel 7, a mobile with a number rings desk 0, and desk 0 answers with a number as the source.
abbrev pub rung_feed : ℕ → ℕ → List Item
rung_feed number source = map lent (both_running ++ (call_entry number ∷ ring_answer_entry source ∷ []))

-- Two such feeds, answered with the number that rang, are related for desk 1 and are not the same. Desk 1 receives the 550651 of the
-- answer, 34 bytes, and desk 0 does get the number (`Witness.rings-witness`).
pub record SpeaksOfRings : Type 0 where
  pub related : Related 1 new_set new_set (rung_feed 990007 990007) (rung_feed 990008 990008)
  pub differ : rung_feed 990007 990007 ≡ rung_feed 990008 990008 → ⊥
  pub receives : map (λ (v : Seen). length v.records) (views 1 new_set (rung_feed 990007 990007)) ≡ 21 ∷ 0 ∷ 21 ∷ 0 ∷ 0 ∷ 0 ∷ 34 ∷ []
  pub learns : views 0 new_set (rung_feed 990007 990007) ≡ views 0 new_set (rung_feed 990008 990008) → ⊥

-- The condition on the called desk's answers is needed: two feeds that differ in the ringing number alone, and may (`may`), with the same
-- answer, which matches in the first. Desk 1 is told of the capture in the first feed only (`Witness.agreement_needed`).
pub record AgreementNeeded : Type 0 where
  pub may : MayDiffer 1 (after new_set (map lent both_running)) (call_entry 990007) (call_entry 990008)
  pub told : views 1 new_set (rung_feed 990007 990007) ≡ views 1 new_set (rung_feed 990008 990007) → ⊥

-- ---- the ticks

-- Desk 0 of the listing has captured channel 7 and presses.
abbrev pub pressed_feed : List Item
pressed_feed = map lent (until_held ++ (press_entry 1 ∷ []))

abbrev pub pressed_channel : Channel
pressed_channel = get_or (after new_set pressed_feed).channels 0 no_channel

-- All that the row asks for is so: one channel, held, no mobile; its press off is accepted, and so are 130 ticks with buffers of 64
-- bytes (`Witness.ticks_met`).
pub record TicksMet : Type 0 where
  pub one : (after new_set pressed_feed).size.channels ≡ 1
  pub held : pressed_channel.holder ≡ Some 0
  pub alone : pressed_channel.arrival ≡ None
  pub let_go : (step_by (after new_set pressed_feed) (lent (press_entry 0))).refusal ≡ 0
  pub taken : map (λ (o : Outcome). o.refusal) (run (step_by (after new_set pressed_feed) (lent (press_entry 0))).after (ticks_with (replicate 130 (replicate 64 0)))) ≡ replicate 130 0
