-- Loops over the channels of a plan: the space counted and the records written so far.
-- Assumes nothing.
use Prim.Native.Nat.{ℕ, ◌+◌, ◌*◌, ◌≤◌, ◌<◌}
use mathlib.Core.List.{List, [], ◌∷◌, ◌++◌, append_assoc}
use mathlib.Core.Bool.{cond}
use mathlib.Core.Path.{◌≡◌, refl, sym, ap, ◌∙◌}
use native.Mathlib.Nat.{zero-add}
use native.Mathlib.Numerals.{add-one}
use native.Mathlib.Omega.{arith}
use lib.ListN.{length, drop, get_or, drop_of_length-le}
use lib.Dec.{ltb}
use lib.Seq.{drop-cons}
use Rattle.laws.proofs.Lists.{at-taken}
use Rattle.channel.specs.declared.state.Channel.{Channel}
use Rattle.channel.specs.declared.state.Event.TheVariants.{EndTalk, EndCall}
use Rattle.channel.specs.declared.state.Send.{Send}
use Rattle.records.specs.Promises.{Split}
use Rattle.set_rules.specs.Records.{Delivery, delivered, to_each, records_of, space_of}
use Rattle.set_rules.specs.SetRules.{sent_in, sends_of, end_sends}
use Rattle.set_rules.proofs.Kept.{space-append}
use Rattle.set_state.specs.State.{no_channel, channels_of}
use Rattle.set_state.specs.declared.state.Desk.{Desk}
use Rattle.set_state.specs.declared.state.LineSet.{LineSet}
use Rattle.line_set.proofs.Seeking.{counted}

records-append : (ds : List Desk) (vs ws : List Delivery) → records_of ds (vs ++ ws) ≡ records_of ds vs ++ records_of ds ws
unfolding records_of
records-append ds [] ws = refl
records-append ds (v ∷ vs) ws = ap (λ (l : List ℕ). to_each 8 0 ds v ++ l) (records-append ds vs ws) ∙ sym (append_assoc (to_each 8 0 ds v) (records_of ds vs) (records_of ds ws))

delivered-append : (ds : List Desk) (ch : ℕ) (ss ts : List Send) → delivered ds ch (ss ++ ts) ≡ delivered ds ch ss ++ delivered ds ch ts
unfolding delivered
delivered-append ds ch [] ts = refl
delivered-append ds ch (s ∷ ss) ts = rw (delivered-append ds ch ss ts) refl

-- the channel at a place
pub record At (cs : List Channel) (i : ℕ) (c : Channel) : Type 0 where
  pub within : i < length cs
  pub is : get_or cs i no_channel ≡ c

-- the code's: below the count of the plan's channels, whatever stands for those that are not there
pub here : (s : LineSet) (count i : ℕ) (z : Channel) → length s.channels ≡ 32 → count ≡ cond (ltb 32 s.size.channels) 32 s.size.channels → i < count
    → At (channels_of s) i (get_or s.channels i z)
here s count i z l e h =
    let w : i < length (channels_of s) = omega (arith, counted s.channels s.size.channels count l e) in
    record { within = w; is = at-taken s.channels s.size.channels i no_channel z w }

-- ---- of what each channel sends by f

module _ (ds : List Desk) (f : Channel → List Send) (cs : List Channel) where
  -- what the channels from place i on send
  abbrev pub left : ℕ → List Delivery
  left i = sends_of ds f (drop i cs)

  abbrev pub sent : Channel → List Delivery
  sent c = delivered ds c.code (f c)

  sends-turn : (i : ℕ) (c : Channel) → At cs i c → left i ≡ sent c ++ left (i + 1)
  unfolding sends_of
  sends-turn i c p = rw (drop-cons cs i no_channel p.within, add-one, p.is) refl

  sends_end : (i : ℕ) → length cs ≤ i → left i ≡ []
  unfolding sends_of
  sends_end i h = rw (drop_of_length-le cs h) refl

  -- ---- the space counted: two events on a channel at most, of 2,856 bytes each

  pub record Summed (i sum : ℕ) : Type 0 where
    pub total : sum + space_of (left i) ≡ space_of (sends_of ds f cs)
    pub bound : sum ≤ i * 5712

  pub sum_first : Summed 0 0
  sum_first = record { total = zero-add _; bound = omega arith }

  pub sum-next : (i : ℕ) (c : Channel) (sum sum' : ℕ) → At cs i c → sum' ≡ sum + space_of (sent c) → sum' ≤ sum + 5712 → Summed i sum → Summed (i + 1) sum'
  sum-next i c sum sum' p e b m =
      let t : space_of (left i) ≡ space_of (sent c) + space_of (left (i + 1)) = ap space_of (sends-turn i c p) ∙ space-append _ _ in
      record { total = omega (arith, m.total, t, e); bound = omega (arith, m.bound, b) }

  pub sum-last : (i sum : ℕ) → length cs ≤ i → Summed i sum → sum ≡ space_of (sends_of ds f cs)
  unfolding space_of
  sum-last i sum h m = let t : space_of (left i) ≡ 0 = rw (sends_end i h) refl in omega (arith, m.total, t)

  -- ---- the records written

  pub put_turn : (i : ℕ) (c : Channel) → At cs i c → Split (records_of ds (left i)) (records_of ds (sent c)) (records_of ds (left (i + 1)))
  put_turn i c p = record { parts = ap (λ (l : List Delivery). records_of ds l) (sends-turn i c p) ∙ records-append ds _ _ }

  pub put_end : (i : ℕ) → length cs ≤ i → records_of ds (left i) ≡ []
  unfolding records_of
  put_end i h = rw (sends_end i h) refl

-- ---- of what a handover sends: the ends of talk, then those of the call

module _ (ds : List Desk) (n : ℕ) (cs : List Channel) (i : ℕ) (c : Channel) where
  abbrev pub of_talk : List Delivery
  of_talk = sent_in ds n EndTalk c

  abbrev pub of_call : List Delivery
  of_call = sent_in ds n EndCall c

  pub ends_next : (sum talk call : ℕ) → At cs i c → (talk ≡ space_of of_talk) × (talk ≤ 2856) → (call ≡ space_of of_call) × (call ≤ 2856)
      → Summed ds (end_sends ds n) cs i sum → Summed ds (end_sends ds n) cs (i + 1) (sum + talk + call)
  ends_next sum talk call p a b m =
      let both : space_of (sent ds (end_sends ds n) cs c) ≡ space_of of_talk + space_of of_call = ap space_of (delivered-append ds c.code _ _) ∙ space-append _ _ in
      sum-next ds (end_sends ds n) cs i c sum (sum + talk + call) p (omega (arith, both)) (omega arith) m

  abbrev pub call_left : List ℕ
  call_left = records_of ds of_call ++ records_of ds (left ds (end_sends ds n) cs (i + 1))

  pub talk-turn : At cs i c → Split (records_of ds (left ds (end_sends ds n) cs i)) (records_of ds of_talk) call_left
  talk-turn p =
      let both : records_of ds (sent ds (end_sends ds n) cs c) ≡ records_of ds of_talk ++ records_of ds of_call =
      ap (λ (l : List Delivery). records_of ds l) (delivered-append ds c.code _ _) ∙ records-append ds _ _ in
      record { parts = (put_turn ds (end_sends ds n) cs i c p).parts ∙ rw (both, append_assoc) refl }

  pub call-turn : Split call_left (records_of ds of_call) (records_of ds (left ds (end_sends ds n) cs (i + 1)))
  call-turn = record { parts = refl }
