-- In every state that a feed brings about the plan fits the arrays with fillers past it, entitled desks are in the plan, and channel
-- codes rise strictly. So the plan is all that there is to a set.
-- Assumes nothing.
use Prim.Native.Nat.{ℕ, zero, suc, ◌+◌, ◌-◌, ◌^◌, ◌≤◌, ◌<◌}
use mathlib.Core.List.{List, [], ◌∷◌, ◌++◌, map}
use mathlib.Core.Bool.{Bool, true, false, ◌&&◌, ◌||◌, not, cond, false≢true}
use mathlib.Core.Path.{◌≡◌, refl, sym, ap, ◌∙◌}
use native.Mathlib.Omega.{arith}
use lib.Dec.{eqb, leb, ltb}
use lib.Pow.{pow_pos}
use lib.ListN.{length, length-take, length-drop, length-set, length-append, length-replicate, length-map, take-append-drop, take, drop, get_or, set, replicate}
use lib.Seq.{length-take-le, take_at, drop_at, take-set-lt, drop-set-lt}
use borrow.Author.Tests.{leb-true, ltb-true, ltb-false, lt-ltb, not-false}
use Rattle.laws.specs.Each.{Each}
use Rattle.laws.proofs.Each.{◌▹◌, each_at, each_set, each_take, each_drop, each_append, each_same}
use Rattle.laws.proofs.Tests.{both, by_test}
use Rattle.laws.proofs.Table.{pick_each}
use Rattle.telegram.specs.Telegram.{read_telegram}
use Rattle.channel.specs.State.{is_in, first_desks}
use Rattle.channel.specs.declared.state.Channel.{Channel}
use Rattle.channel.specs.declared.state.Event.{Event}
use Rattle.channel.specs.declared.state.Event.TheVariants.{Cut, MobileOff, Cancel, Tick}
use Rattle.channel.proofs.Kept.{none_above}
use Rattle.line_rules.proofs.Kept.{keeps_place}
use Rattle.set_state.specs.State.{new_set, no_desk, no_channel, listeners_of, channels_of, place_in, has_channel, channel_at, time_told, answered, with_channels, with_link}
use Rattle.frames.specs.Bytes.{byte}
use Rattle.set_state.specs.declared.state.Link.{Link}
use Rattle.set_state.specs.declared.state.LineSet.{LineSet}
use Rattle.set_state.specs.declared.state.LinkRequest.TheVariants.{TellsTime, TellsState}
use Rattle.set_state.specs.declared.state.Request.{Request}
use Rattle.set_state.specs.declared.state.Request.TheVariants.{OfLink, OnChannel, AnswersRing, Foreign}
use Rattle.set_rules.specs.Entries.{read_entry, telegram_in, plan_in, entry_kind, entry_desk, entry_channel, ReadEntry}
use Rattle.set_rules.specs.Plan.{desks_in, channels_ok, channels_in, desk_count, desks_part, channel_count, channels_part, plan_ok, filled, set_of}
use Rattle.set_rules.specs.Refusals.{lookup_in, asked_in, channel_in, named, may_use, refusal_of}
use Rattle.set_rules.specs.SetRules.{Effect, moved_in, on_channel, ticked, on_tick, on_handover, answers_in, on_request, ways, accepted_by, accepted}
use Rattle.set_rules.specs.Feeds.{after}
use Rattle.set_rules.specs.Invariant.{EntitledIn, Rising, Shaped}
use Rattle.set_rules.specs.RecordLaws.{DesksAsSaid, ChannelsAsSaid}
use Rattle.set_rules.specs.Promises.{AlwaysShaped, SamePlan, FillersNeverShow}
use Rattle.set_rules.proofs.Answers.{feed_keeps}
use Rattle.set_rules.proofs.Rows.{no_row}
use Rattle.set_rules.proofs.Readable.{plan_kept}

-- ---- an array of N elements: n of the plan, and z past them

module _ {A : Type 0} (N : ℕ) (z : A) (n : ℕ) where
  record Holds (xs : List A) : Type 0 where
    long : length xs ≡ N
    most : n ≤ N
    past : drop n xs ≡ replicate (N - n) z

  set_holds : (xs : List A) (i : ℕ) (x : A) → i < n → Holds xs → Holds (set xs i x)
  set_holds xs i x h o = record { long = length-set xs i x ∙ o.long; most = o.most; past = drop-set-lt n xs i x h ∙ o.past }

  -- the part of the plan replaced
  front-holds : (xs ys : List A) → length ys ≡ n → Holds xs → Holds (ys ++ drop n xs)
  front-holds xs ys h o = record {
    long = length-append ys (drop n xs) ∙ omega (arith, h, length-drop n xs, o.long, o.most);
    most = o.most;
    past = drop_at ys (drop n xs) n h ∙ o.past;
  }

  filled-holds : (xs : List A) → length xs ≡ n → n ≤ N → Holds (filled N z xs)
  filled-holds xs h l = record {
    long = length-append xs _ ∙ omega (arith, length-replicate (N - length xs) z);
    most = l;
    past = drop_at xs _ n h ∙ rw h;
  }

  -- two such arrays with the same plan
  holds_same : (xs ys : List A) → take n xs ≡ take n ys → Holds xs → Holds ys → xs ≡ ys
  holds_same xs ys e o p = sym (take-append-drop n xs) ∙ (rw (e, o.past, ← p.past) (take-append-drop n ys))

-- ---- entitled desks

pub mask_in : (n m : ℕ) → m < 2 ^ n → (d : ℕ) → is_in d m ≡ true → d < n
mask_in n m h d i = by_test (ltb d n) (ltb-true d n) (λ k. absurd (false≢true (sym (none_above n d m (ltb-false d n k) h) ∙ i)))

no_channel_in : (n : ℕ) → EntitledIn n no_channel
no_channel_in n = mask_in n 0 (pow_pos n)

-- ---- channels that keep their codes and entitled desks

rising_set : (low : ℕ) (cs : List Channel) (i : ℕ) (c : Channel) → c.code ≡ (get_or cs i no_channel).code → Rising low cs → Rising low (set cs i c)
rising_set low [] i c e r = tt
rising_set low (c' ∷ cs) zero c e r = rw e r
rising_set low (c' ∷ cs) (suc i) c e r = (r.0, rising_set (c'.code + 1) cs i c e r.1)

module _ (f : Channel → Channel) where
  rising_map : ((c : Channel) → (f c).code ≡ c.code) → (low : ℕ) (cs : List Channel) → Rising low cs → Rising low (map f cs)
  rising_map h low [] r = tt
  rising_map h low (c ∷ cs) r = rw (h c) (r.0, rising_map h (c.code + 1) cs r.1)

  entitled-map : ((c : Channel) → (f c).entitled ≡ c.entitled) → (n : ℕ) (cs : List Channel) → Each (EntitledIn n) cs → Each (EntitledIn n) (map f cs)
  entitled-map h n [] o = tt
  entitled-map h n (c ∷ cs) o = (rw (h c) o.0, entitled-map h n cs o.1)

-- ---- what an accepted entry does

module _ (s : LineSet) (h : Shaped s) where
  desks_hold : Holds 4 no_desk s.size.desks s.desks
  desks_hold = record { long = h.four-desks; most = h.desks-most; past = h.desks-past }

  channels_hold : Holds 32 no_channel s.size.channels s.channels
  channels_hold = record { long = h.channels-long; most = h.channels-most; past = h.channels-past }

  -- other channels in the place of those of s
  moved_shaped : (cs : List Channel) → Holds 32 no_channel s.size.channels cs → Each (EntitledIn s.size.desks) cs → Rising 0 (take s.size.channels cs) → Shaped (with_channels cs s)
  moved_shaped cs o e r = record {
    four-desks = h.four-desks;
    desks-most = h.desks-most;
    desks-past = h.desks-past;
    channels-long = o.long;
    channels-most = o.most;
    channels-past = o.past;
    entitled-planned = e;
    codes_rise = r;
  }

  -- the channel found is one of the plan
  place-planned : (ch : ℕ) → has_channel s ch ≡ true → place_in s ch < s.size.channels
  place-planned ch k = omega (arith, ltb-true (place_in s ch) (length (channels_of s)) k, length-take s.size.channels s.channels)

  kept : (v : Event) (c : Channel) → let c' : Channel = (moved_in s.desks s.size.desks v c).next in (c'.code ≡ c.code) × (c'.entitled ≡ c.entitled)
  kept v c = keeps_place v (listeners_of s.desks s.size.desks c) c

  on_shaped : (ch : ℕ) (v : Event) → has_channel s ch ≡ true → Shaped (on_channel s ch v).after
  unfolding on_channel
  on_shaped ch v k =
      let n = s.size.channels in
      let i = place_in s ch in
      let c = channel_at s ch in
      let l = place-planned ch k in
      let entitled = each_at (EntitledIn s.size.desks) (channels_of s) no_channel (each_take (EntitledIn s.size.desks) n s.channels h.entitled-planned) (no_channel_in s.size.desks) i in
      moved_shaped _
      (set_holds 32 no_channel n s.channels i _ l channels_hold)
      (each_set (EntitledIn s.size.desks) s.channels i _ h.entitled-planned (rw (kept v c).1 entitled))
      (rw (take-set-lt n s.channels i _ l) (rising_set 0 (channels_of s) i _ (kept v c).0 h.codes_rise))

  tick_shaped : Shaped (on_tick s).after
  unfolding on_tick
  tick_shaped =
      let n = s.size.channels in
      let f = ticked s.desks s.size.desks in
      let l : length (map f (channels_of s)) ≡ n = length-map (channels_of s) f ∙ length-take-le n s.channels (omega (arith, h.channels-long, h.channels-most)) in
      let P = EntitledIn s.size.desks in
      moved_shaped _
      (front-holds 32 no_channel n s.channels (map f (channels_of s)) l channels_hold)
      (each_append P (map f (channels_of s)) _ (entitled-map f (λ c. (kept Tick c).1) s.size.desks (channels_of s) (each_take P n s.channels h.entitled-planned)) (each_drop P n s.channels h.entitled-planned))
      (rw (take_at (map f (channels_of s)) (drop n s.channels) n l) (rising_map f (λ c. (kept Tick c).0) 0 (channels_of s) h.codes_rise))

  link_shaped : (d : ℕ) (f : Link → Link) → d < s.size.desks → Shaped (with_link d f s)
  link_shaped d f l =
      let o = set_holds 4 no_desk s.size.desks s.desks d _ l desks_hold in
      record {
        four-desks = o.long;
        desks-most = o.most;
        desks-past = o.past;
        channels-long = h.channels-long;
        channels-most = h.channels-most;
        channels-past = h.channels-past;
        entitled-planned = h.entitled-planned;
        codes_rise = h.codes_rise;
      }

  request_shaped : (t : Bool) (d : ℕ) (q : Request) → d < s.size.desks
      → named true (λ ch n. may_use (lookup_in s (channel_in q)) d) (λ m. may_use (lookup_in s (channel_in q)) d) q ≡ true → Shaped (on_request t s d q).after
  request_shaped t d (OfLink TellsTime) l u = link_shaped d time_told l
  request_shaped t d (OfLink (TellsState a)) l u = link_shaped d (answered a) l
  request_shaped t d (OnChannel ch n v) l u = on_shaped ch v (both (has_channel s ch) _ u).0
  request_shaped t d (AnswersRing m) l u = on_shaped m.channel _ (both (has_channel s m.channel) _ u).0
  request_shaped t d Foreign l u = h

-- ---- a plan that keeps its rules

pub length-desks : DesksAsSaid
unfolding desks_in
length-desks zero b = refl
length-desks (suc n) b = ap suc (length-desks n (drop 10 b))

pub length-channels : ChannelsAsSaid
unfolding channels_in
length-channels zero b = refl
length-channels (suc n) b = ap suc (length-channels n (drop 2 b))

-- who is in a mask of the first n desks is one of them
pub first_in : (n m : ℕ) → n ≤ 4 → m ≤ first_desks n → (d : ℕ) → is_in d m ≡ true → d < n
first_in n m l h =
    let k : m ≤ 2 ^ n - 1 = rw (lt-ltb n 8 (omega arith)) at h in
    mask_in n m (omega (arith, pow_pos n))

record ChannelsIn (low desks : ℕ) (cs : List Channel) : Type 0 where
  entitled : Each (EntitledIn desks) cs
  rise : Rising low cs

channels_in_lem : (n low desks : ℕ) (b : List ℕ) → desks ≤ 4 → channels_ok n low desks b ≡ true → ChannelsIn low desks (channels_in n b)
unfolding channels_ok channels_in
channels_in_lem zero low desks b l h = record { entitled = tt; rise = tt }
channels_in_lem (suc n) low desks b l h =
    let a = both _ _ h in
    let f = both _ _ a.0 in
    let code = both (leb low (byte b 0)) _ f.0 in
    let mask = both (leb 1 (byte b 1)) _ f.1 in
    let rest = channels_in_lem n _ desks (drop 2 b) l a.1 in
    record {
      entitled = (first_in desks (byte b 1) l (leb-true _ _ mask.1), rest.entitled);
      rise = (leb-true low _ code.0, rest.rise);
    }

pub plan_shaped : (p : List ℕ) → plan_ok p ≡ true → Shaped (set_of p)
unfolding plan_ok set_of
plan_shaped p h =
    let ds = desks_in (desk_count p) (desks_part p) in
    let cs = channels_in (channel_count p) (channels_part p) in
    let a = both _ (channels_ok (channel_count p) 0 (desk_count p) (channels_part p)) h in
    -- the counts stand before the size, the desks and their numbers
    let counts = both _ _ (both _ _ (both _ _ (both _ _ a.0).0).0).0 in
    let few = leb-true (desk_count p) 4 (both (leb 1 (desk_count p)) _ counts.0).1 in
    let k = channels_in_lem (channel_count p) 0 (desk_count p) (channels_part p) few a.1 in
    let desks = filled-holds 4 no_desk (desk_count p) ds (length-desks (desk_count p) (desks_part p)) few in
    let channels = filled-holds 32 no_channel (channel_count p) cs (length-channels (channel_count p) (channels_part p)) (leb-true (channel_count p) 32 (both (leb 1 (channel_count p)) _ counts.1).1) in
    record {
      four-desks = desks.long;
      desks-most = desks.most;
      desks-past = desks.past;
      channels-long = channels.long;
      channels-most = channels.most;
      channels-past = channels.past;
      entitled-planned = each_append (EntitledIn (desk_count p)) cs _ k.entitled (each_same (EntitledIn (desk_count p)) (32 - length cs) no_channel (no_channel_in (desk_count p)));
      codes_rise = rw (take_at cs (replicate (32 - length cs) no_channel) (channel_count p) (length-channels (channel_count p) (channels_part p))) k.rise;
    }

new_shaped : Shaped new_set
new_shaped = record {
  four-desks = refl;
  desks-most = omega arith;
  desks-past = refl;
  channels-long = refl;
  channels-most = omega arith;
  channels-past = refl;
  entitled-planned = each_same (EntitledIn 0) 32 no_channel (no_channel_in 0);
  codes_rise = tt;
}

-- ---- every accepted entry, every entry, every feed

module _ (s : LineSet) (e : List ℕ) (x : ReadEntry) (z : refusal_of s e x ≡ 0) where
  -- the desk of a telegram is in the plan, and so is a channel that it names: rows 7 and 12
  told_shaped : Shaped s → (t : Bool) → entry_kind x ≡ 1 → Shaped (on_request t s (entry_desk x) (asked_in (entry_desk x) (read_telegram (telegram_in e)))).after
  told_shaped h t k =
      let r = no_row s e x z in
      request_shaped s h t (entry_desk x) (asked_in (entry_desk x) (read_telegram (telegram_in e))) (ltb-true _ _ (not-false _ (rw k at r.row7-fails))) (not-false _ (rw k at r.row12-fails))

  -- so is the channel of a press, a cut or a mobile: row 12
  pub found : (k : ℕ) → eqb k 1 ≡ false → ((eqb k 2 || eqb k 3) || (eqb k 4 || eqb k 5 || eqb k 9 || eqb k 10)) ≡ true → entry_kind x ≡ k → has_channel s (entry_channel x) ≡ true
  found k a b q = go (eqb k 2 || eqb k 3) (eqb k 4 || eqb k 5 || eqb k 9 || eqb k 10) (has_channel s (entry_channel x)) _ b (rw (q, a) at (no_row s e x z).row12-fails)
    where
      go : (t u f m : Bool) → (t || u) ≡ true → cond t (not (f && m)) (cond u (not f) false) ≡ false → f ≡ true
      go true u f m o r = (both f m (not-false (f && m) r)).0
      go false true f m o r = not-false f r
      go false false f m o r = absurd (false≢true o)

  accepted_shaped : Shaped s → Shaped (accepted s e x).after
  unfolding accepted_by accepted on_handover
  accepted_shaped h =
      let t = answers_in s (entry_desk x) (asked_in (entry_desk x) (read_telegram (telegram_in e))) in
      pick_each (λ (f : Effect). Shaped f.after) (entry_kind x) _ (ways t s e x) h
      (told_shaped h t
      ▹ (λ k. on_shaped s h (entry_channel x) _ (found 2 refl refl k))
      ▹ (λ k. on_shaped s h (entry_channel x) Cut (found 3 refl refl k))
      ▹ (λ k. on_shaped s h (entry_channel x) _ (found 4 refl refl k))
      ▹ (λ k. on_shaped s h (entry_channel x) MobileOff (found 5 refl refl k))
      ▹ (λ k. tick_shaped s h)
      ▹ (λ k. plan_shaped (plan_in e) (plan_kept s e x z k))
      ▹ (λ k. new_shaped)
      ▹ (λ k. on_shaped s h (entry_channel x) _ (found 9 refl refl k))
      ▹ (λ k. on_shaped s h (entry_channel x) Cancel (found 10 refl refl k))
      ▹ tt)

pub always_shaped : AlwaysShaped
always_shaped f = feed_keeps Shaped (λ s e z h. accepted_shaped s e (read_entry e) z h) new_set f new_shaped

-- ---- fillers never show

shaped_same : (s s' : LineSet) → Shaped s → Shaped s' → SamePlan s s' → s ≡ s'
shaped_same s s' h h' p =
    let a : s.desks ≡ s'.desks = holds_same 4 no_desk s.size.desks s.desks s'.desks (rw p.size (rw p.size at p.desks)) (desks_hold s h) (rw p.size (desks_hold s' h')) in
    let b : s.channels ≡ s'.channels = holds_same 32 no_channel s.size.channels s.channels s'.channels (rw p.size (rw p.size at p.channels)) (channels_hold s h) (rw p.size (channels_hold s' h')) in
    λ i. record { channels = b i; desks = a i; size = p.size i; planned = p.planned i }

pub same_plan : FillersNeverShow
same_plan f f' = shaped_same (after new_set f) (after new_set f') (always_shaped f) (always_shaped f')
