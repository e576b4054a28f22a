-- A tick on all channels: the space counted first, then the records written and the channels changed turn by turn.
-- Assumes nothing.
use Prim.Native.Nat.{ℕ, zero, suc, ◌+◌, ◌-◌, ◌≤◌, ◌<◌}
use mathlib.Core.List.{List, [], ◌∷◌, ◌++◌, map, append_assoc}
use mathlib.Core.Bool.{false}
use mathlib.Core.Path.{◌≡◌, refl, sym, ap, subst, ◌∙◌}
use native.Mathlib.Numerals.{add-one}
use native.Mathlib.Omega.{arith}
use lib.ListN.{length, take, drop, get_or, set, length-map, length-take}
use lib.Seq.{drop-cons, take-suc, set_at, get_or_at, set-get_or, length-take-le}
use lib.Dec.{ltb}
use borrow.Author.Tests.{ltb-true, ltb-false}
use borrow.Table.Elements.{map_app}
use Rattle.laws.proofs.Tests.{by_test}
use Rattle.laws.proofs.Lists.{at-taken, take_count, drop-count}
use Rattle.line_rules.specs.Rules.{Step, happens}
use Rattle.timers.specs.Falls.{falling, may_fall, is_due, tick_by}
use Rattle.timers.proofs.Kept.{tick_by_lem, at_rest, silent_unless_due}
use Rattle.channel.specs.declared.state.Channel.{Channel}
use Rattle.channel.specs.declared.state.Falling.{Falling}
use Rattle.channel.specs.declared.state.Falling.TheVariants.{Still}
use Rattle.channel.specs.declared.state.Event.TheVariants.{Tick}
use Rattle.channel.specs.declared.state.Send.{Send}
use Rattle.records.specs.Emitting.{PutAt}
use Rattle.records.specs.Promises.{Writing}
use Rattle.records.proofs.Kept.{written_none, start, next, room, all_put, put_first}
use Rattle.set_state.specs.State.{no_channel, channels_of, listeners_of, with_channels}
use Rattle.set_rules.specs.Records.{delivered, records_of, space_of}
use Rattle.set_rules.specs.SetRules.{moved_in, sent_in, ticked, tick_sends, on_tick}
use Rattle.set_rules.specs.Feeds.{Gives, emit}
use Rattle.set_rules.proofs.Kept.{space-length}
use Rattle.set_state.specs.declared.state.Desk.{Desk}
use Rattle.set_state.specs.declared.state.LineSet.{LineSet}
use Rattle.set_rules.specs.RecordLaws.{accepted_with}
use Rattle.line_set.proofs.Emission.{even_tick}
use Rattle.line_set.proofs.Turns.{At, left, Summed, sum_first, sum-next, put_turn, put_end}

-- ---- a list whose elements are changed one by one

module _ {A : Type 0} (f : A → A) (xs : List A) where
  -- the first i are changed
  abbrev pub changed : ℕ → List A
  changed i = map f (take i xs) ++ drop i xs

  length_front : (i : ℕ) → i < length xs → length (map f (take i xs)) ≡ i
  length_front i h = length-map (take i xs) f ∙ length-take-le i xs (omega arith)

  -- the next one is as it was
  changed-at : (i : ℕ) (y z : A) → i < length xs → get_or (changed i) i y ≡ get_or xs i z
  changed-at i y z h = rw (drop-cons xs i z h) (get_or_at (map f (take i xs)) (get_or xs i z) (drop (suc i) xs) y i (length_front i h))

  changed-next : (i : ℕ) (z : A) → i < length xs → set (changed i) i (f (get_or xs i z)) ≡ changed (i + 1)
  changed-next i z h =
      rw (add-one, drop-cons xs i z h, set_at (map f (take i xs)) (get_or xs i z) (drop (suc i) xs) (f (get_or xs i z)) i (length_front i h), take-suc xs i z h, map_app f (take i xs) (get_or xs i z ∷ []))
      (sym (append_assoc (map f (take i xs)) (f (get_or xs i z) ∷ []) (drop (suc i) xs)))

  -- as many as a plan has
  changed-last : (k i : ℕ) → i ≡ length (take k xs) → changed i ≡ map f (take k xs) ++ drop k xs
  changed-last k i h = rw (h, take_count k xs, drop-count k xs) refl

-- ---- one channel, by what the tick does to its timers

module _ (ds : List Desk) (n : ℕ) (c : Channel) where
  next_by : {f : Falling} → falling c ≡ f → (moved_in ds n Tick c).next ≡ (tick_by f (listeners_of ds n c) c).next
  unfolding happens
  next_by h = ap (λ (st : Step). st.next) (tick_by_lem (listeners_of ds n c) c h)

  silent : is_due (falling c) ≡ false → tick_sends ds n c ≡ []
  unfolding happens
  silent h = silent_unless_due (listeners_of ds n c) c h

-- ---- the space counted

module _ (s : LineSet) where
  abbrev pub tick_of : Channel → List Send
  tick_of = tick_sends s.desks s.size.desks

  abbrev pub Counted : ℕ → ℕ → Type 0
  Counted = Summed s.desks tick_of (channels_of s)

  -- the first k channels are counted, and from `end` on they are at rest
  pub record Scanned (need end k : ℕ) : Type 0 where
    pub counted : Counted k need
    pub low : end ≤ k
    pub rest : (j : ℕ) (c : Channel) → end ≤ j → j < k → At (channels_of s) j c → falling c ≡ Still

  pub scan_first : Scanned 0 0 0
  scan_first = record { counted = sum_first _ _ _; low = omega arith; rest = λ j c l h. absurd (omega arith) }

  module _ (k : ℕ) (c : Channel) (p : At (channels_of s) k c) {need end : ℕ} (m : Scanned need end k) where
    count-silent : {need' : ℕ} → is_due (falling c) ≡ false → need' ≡ need → Counted (k + 1) need'
    unfolding space_of delivered
    count-silent {need'} h e =
        let none : tick_of c ≡ [] = silent s.desks s.size.desks c h in
        let zero : space_of (sent_in s.desks s.size.desks Tick c) ≡ 0 = rw none refl in
        sum-next s.desks tick_of (channels_of s) k c need need' p (omega (arith, zero)) (omega arith) m.counted

    -- behind a channel that is not at rest none is passed yet
    anew : {need' end' : ℕ} → Counted (k + 1) need' → end' ≡ k + 1 → Scanned need' end' (k + 1)
    anew n e = record { counted = n; low = omega arith; rest = λ j d l h. absurd (omega arith) }

    pub scan_rest : {need' end' : ℕ} → may_fall c ≡ false → need' ≡ need → end' ≡ end → Scanned need' end' (k + 1)
    scan_rest {need'} {end'} h e f = record { counted = count-silent (ap is_due (at_rest c h)) e; low = omega (arith, m.low); rest = all_rest }
      where
        all_rest : (j : ℕ) (d : Channel) → end' ≤ j → j < k + 1 → At (channels_of s) j d → falling d ≡ Still
        all_rest j d l g q = by_test (ltb j k) (λ t. m.rest j d (omega arith) (ltb-true j k t) q) (λ t. ap falling (same t) ∙ at_rest c h)
          where
            same : ltb j k ≡ false → d ≡ c
            same t = sym q.is ∙ ap (λ (i : ℕ). get_or (channels_of s) i no_channel) (omega (arith, ltb-false j k t)) ∙ p.is

    pub scan_silent : {need' end' : ℕ} → is_due (falling c) ≡ false → need' ≡ need → end' ≡ k + 1 → Scanned need' end' (k + 1)
    scan_silent h e = anew (count-silent h e)

    pub scan_due : {need' end' : ℕ} (one : ℕ) → (one ≡ space_of (sent_in s.desks s.size.desks Tick c)) × (one ≤ 2856) → need' ≡ need + one → end' ≡ k + 1 → Scanned need' end' (k + 1)
    scan_due {need'} one h e = anew (sum-next s.desks tick_of (channels_of s) k c need need' p (omega arith) (omega arith) m.counted)

-- ---- the records written and the channels changed

abbrev total : LineSet → List ℕ
total s = records_of s.desks (on_tick s).sent

-- the first i channels are ticked, nothing else of the set has changed, and what they send is written; there is room for the rest
pub record Ticking (s : LineSet) (b₀ : List ℕ) (i : ℕ) (t : LineSet) (b : List ℕ) (at : ℕ) : Type 0 where
  pub channels : t.channels ≡ changed (ticked s.desks s.size.desks) s.channels i
  pub others : t ≡ with_channels t.channels s
  pub bytes : Writing b₀ 0 (total s) b at (records_of s.desks (left s.desks (tick_of s) (channels_of s) i))
  pub fits : space_of (on_tick s).sent ≤ length b₀

pub tick-first : (s : LineSet) (b : List ℕ) → space_of (on_tick s).sent ≤ length b → Ticking s b 0 s b 0
unfolding on_tick
tick-first s b h = record { channels = refl; others = refl; bytes = start b 0 _; fits = h }

-- a channel of the plan is one of the set's
in_set : (s : LineSet) (i : ℕ) (c : Channel) → At (channels_of s) i c → At s.channels i c
in_set s i c p =
    record { within = omega (arith, p.within, length-take s.size.channels s.channels); is = sym (at-taken s.channels s.size.channels i no_channel no_channel p.within) ∙ p.is }

module _ (s : LineSet) (b₀ : List ℕ) (i : ℕ) (c : Channel) (p : At (channels_of s) i c) {t : LineSet} {b : List ℕ} {at : ℕ} (m : Ticking s b₀ i t b at) where
  -- the channel whose turn it is, is as it was
  still : (y : Channel) → get_or t.channels i y ≡ c
  still y =
      let q = in_set s i c p in
      ap (λ (l : List Channel). get_or l i y) m.channels ∙ changed-at _ s.channels i y no_channel q.within ∙ q.is

  pub here-still : (y : Channel) → At (channels_of s) i (get_or t.channels i y)
  here-still y = record { within = p.within; is = p.is ∙ sym (still y) }

  abbrev pub due : List ℕ
  due = records_of s.desks (sent_in s.desks s.size.desks Tick c)

  pub due-fits : at + length due ≤ length b
  due-fits = room m.bytes (put_turn s.desks (tick_of s) (channels_of s) i c p) (omega (arith, m.fits, space-length s.desks (on_tick s).sent (even_tick s)))

  module _ {t' : LineSet} {b' : List ℕ} {at' : ℕ} where
    pub turned : (y : Channel) → t' ≡ with_channels (set t.channels i y) t → y ≡ ticked s.desks s.size.desks c → PutAt at due at' b b' → Ticking s b₀ (i + 1) t' b' at'
    turned y e n w =
        let q = in_set s i c p in
        let f = ticked s.desks s.size.desks in
        record {
          channels = ap (λ (u : LineSet). u.channels) e ∙ rw (m.channels, n, sym q.is) (changed-next f s.channels i no_channel q.within);
          others = e ∙ ap (λ (u : LineSet). with_channels (set t.channels i y) u) m.others ∙ ap (λ (u : LineSet). with_channels u.channels s) (sym e);
          bytes = next m.bytes (put_turn s.desks (tick_of s) (channels_of s) i c p) w.0 w.1;
          fits = m.fits;
        }

    -- a turn in which nothing is sent
    pub silent-turn : (f : Falling) → falling c ≡ f → is_due f ≡ false
        → t' ≡ with_channels (set t.channels i (tick_by f (listeners_of s.desks s.size.desks c) c).next) t → b' ≡ b → at' ≡ at → Ticking s b₀ (i + 1) t' b' at'
    unfolding records_of delivered
    silent-turn f h o e same stays =
        let none : tick_of s c ≡ [] = silent s.desks s.size.desks c (ap is_due h ∙ o) in
        let no_bytes : due ≡ [] = rw none refl in
        turned _ e (sym (next_by s.desks s.size.desks c h)) (rw no_bytes (omega (arith, stays), same ∙ sym (written_none b at)))

    -- a turn that leaves the channel
    pub kept-turn : falling c ≡ Still → t' ≡ t → b' ≡ b → at' ≡ at → Ticking s b₀ (i + 1) t' b' at'
    kept-turn h e = silent-turn Still h refl (e ∙ ap (λ (l : List Channel). with_channels l t) (sym (set-get_or t.channels i c)) ∙ ap (λ (x : Channel). with_channels (set t.channels i x) t) (still c))

module _ (s : LineSet) (b₀ : List ℕ) {t : LineSet} {b : List ℕ} {at : ℕ} where
  -- channels at rest need no turn
  rest-turns : (d i : ℕ) → i + d ≡ length (channels_of s) → ((j : ℕ) (c : Channel) → i ≤ j → At (channels_of s) j c → falling c ≡ Still)
      → Ticking s b₀ i t b at → Ticking s b₀ (length (channels_of s)) t b at
  rest-turns zero i e r m = subst (λ (k : ℕ). Ticking s b₀ k t b at) (omega arith) m
  rest-turns (suc d) i e r m =
      let p : At (channels_of s) i (get_or (channels_of s) i no_channel) = record { within = omega arith; is = refl } in
      rest-turns d (i + 1) (omega arith) (λ j c l. r j c (omega arith)) (kept-turn s b₀ i _ p m (r i _ (omega arith) p) refl refl refl)

  pub tick-last : (i need end k : ℕ) → end ≤ i → i ≤ k → k ≡ length (channels_of s) → Scanned s need end k → Ticking s b₀ i t b at
      → Gives (emit s (on_tick s) (length b₀)) (accepted_with t at) b₀ b
  unfolding on_tick
  tick-last i need end k l h e sc m =
      let n = length (channels_of s) in
      let all = rest-turns (n - i) i (omega arith) (λ j c g q. sc.rest j c (omega arith) (omega (arith, q.within)) q) m in
      put_first s (on_tick s) b₀ all.fits (even_tick s) (all_put all.bytes (put_end s.desks (tick_of s) (channels_of s) n (omega arith)))
      (all.others ∙ ap (λ (cs : List Channel). with_channels cs s) (all.channels ∙ changed-last _ s.channels s.size.channels n refl))
