-- In every state that a feed brings about all channels are among the running entitled desks, and every record written goes to a
-- desk that may have it, with numbers that are for it.
-- Assumes nothing.
use Prim.Native.Nat.{ℕ, zero, suc, ◌-◌, ◌≤◌, ◌<◌}
use mathlib.Core.List.{List, [], ◌∷◌, ◌++◌, map}
use mathlib.Core.Bool.{Bool, true, false, ◌&&◌, not, cond, false≢true}
use mathlib.Core.Logic.{inl, inr}
use mathlib.Core.Path.{◌≡◌, refl, sym, ap, subst, ◌∙◌}
use native.Mathlib.Omega.{arith}
use lib.Dec.{eqb}
use lib.ListN.{length, take, drop, get_or, replicate}
use borrow.Author.Tests.{ltb-true, eqb-true, eqb-false, eq-eqb, ne_eqb, not-false}
use Rattle.laws.specs.Each.{Each}
use Rattle.laws.proofs.Each.{◌▹◌, each_both, each_at, each_set, each_take, each_drop, each_append, each_same, each_map}
use Rattle.laws.proofs.Tests.{both}
use Rattle.laws.proofs.Table.{pick_each}
use Rattle.telegram.specs.Telegram.{read_telegram}
use Rattle.telegram.specs.declared.message.Number.{Number}
use Rattle.telegram.specs.declared.message.Message.TheVariants.{TimeRequest, OperationRequest}
use Rattle.channel.specs.State.{is_in, only, first_desks}
use Rattle.channel.specs.declared.state.Channel.{Channel}
use Rattle.channel.specs.declared.state.Event.{Event}
use Rattle.channel.specs.declared.state.Event.TheVariants.{Cut, MobileOff, Cancel, Tick, EndTalk, EndCall}
use Rattle.channel.specs.declared.state.Send.{Send}
use Rattle.line_rules.specs.Notices.{telegram}
use Rattle.line_rules.specs.Invariant.{ChannelOk, Fits}
use Rattle.line_rules.specs.Among.{Around, Listens, AllListen, Among, FitsAmong, SendTold, StepAmong}
use Rattle.line_rules.proofs.Kept.{free_is_among, stays-among}
use Rattle.set_state.specs.State.{new_set, no_desk, no_channel, own_of, channels_of, place_in, has_channel, channel_at, listeners_of, time_told, answered, with_link}
use Rattle.frames.specs.Bytes.{byte}
use Rattle.set_state.proofs.Kept.{listeners_exactly}
use Rattle.set_state.specs.declared.state.Link.{Link}
use Rattle.set_state.specs.declared.state.Desk.{Desk}
use Rattle.set_state.specs.declared.state.LineSet.{LineSet}
use Rattle.set_state.specs.declared.state.LinkRequest.TheVariants.{TellsTime, TellsState}
use Rattle.set_state.specs.declared.state.Request.{Request}
use Rattle.set_state.specs.declared.state.Request.TheVariants.{OfLink, OnChannel, AnswersRing, Foreign}
use Rattle.set_rules.specs.Entries.{read_entry, telegram_in, plan_in, entry_kind, entry_desk, entry_channel, entry_on, entry_number, entry_called, ReadEntry}
use Rattle.set_rules.specs.Plan.{desk_count, channel_count, channels_part, channels_in, plan_ok, set_of}
use Rattle.set_rules.specs.Refusals.{asked_in, phase_of, named, may_use, lookup_in, channel_in, number_in, called_place, refusal_of}
use Rattle.set_rules.specs.Records.{Delivery, delivered}
use Rattle.set_rules.specs.SetRules.{Effect, moved_in, on_channel, sends_of, ticked, tick_sends, end_sends, on_tick, on_handover, on_plan, answers_in, on_request, ways, accepted_by, accepted}
use Rattle.frames.specs.Frames.{frames_to}
use Rattle.set_rules.specs.Feeds.{Item, step_by, after, written_in}
use Rattle.set_rules.specs.Letters.{letter_for, letters_to, letters_of, letters_in}
use Rattle.set_rules.specs.Invariant.{SetOk, Shaped, around_of, AllAmong}
use Rattle.set_rules.specs.Promises.{Right, BringsNumber, Brings, AlwaysAmong, served_by, ToldRight}
use Rattle.set_rules.proofs.Rows.{NoRow, no_row, row-finds}
use Rattle.set_rules.proofs.Asked.{OnEvent, asked_in_lem, answer-rings}
use Rattle.set_rules.proofs.Readable.{AskedOk, at_ok, planned-ok, plan_kept, press_of, entry-fits, asked-ok, always_ok, readable}
use Rattle.set_rules.proofs.Shape.{first_in, plan_shaped, found, always_shaped}
use Rattle.set_rules.proofs.Answers.{refused, accepted-after, step_keeps, after-append}
use Rattle.set_rules.proofs.Among.{only-is, place-code, Found, rising_found, running_in, own-linked, runs_at, runs-linked, among-more, Heard, Tells, sends-heard}

-- ---- effects

-- free channels are among any desks: those of a plan, and what fills the array
free-channels : (w : Around) (n : ℕ) (b : List ℕ) → Each (Among w) (channels_in n b)
unfolding channels_in
free-channels w zero b = tt
free-channels w (suc n) b = (free_is_among w (byte b 0) (byte b 1), free-channels w n (drop 2 b))

fillers : (w : Around) (n : ℕ) → Each (Among w) (replicate n no_channel)
fillers w n = each_same (Among w) n no_channel (free_is_among w 0 0)

-- "Accepting a plan sends 550461 to each desk."
plan_tells : (M : Number → Type 0) (p : List ℕ) → plan_ok p ≡ true → Tells M (set_of p) (on_plan p)
unfolding set_of
plan_tells M p h =
    let n = desk_count p in
    let cs = channels_in (channel_count p) (channels_part p) in
    let to-each : Heard (set_of p) M (set_of p).desks (record { recipients = first_desks n; content = λ d. telegram TimeRequest }) =
    λ d i. (first_in n (first_desks n) (plan_shaped p h).desks-most (omega arith) d i, (refl, (tt, tt))) in
    record { among-after = each_append (Among (around_of (set_of p) M)) cs _ (free-channels _ (channel_count p) (channels_part p)) (fillers _ (32 - length cs)); sent-right = (to-each, tt) }

-- the letters of deliveries of which each recipient hears what is right
module _ (s : LineSet) (M : Number → Type 0) (ds : List Desk) where
  letters_to_lem : (k d : ℕ) (v : Delivery) → Heard s M ds v → Each (Right s M) (letters_to k d ds v)
  unfolding letters_to
  letters_to_lem zero d v h = tt
  letters_to_lem (suc k) d v h = go (is_in d v.recipients) refl (letters_to_lem k (suc d) v h)
    where
      go : (t : Bool) → is_in d v.recipients ≡ t → Each (Right s M) (letters_to k (suc d) ds v)
          → Each (Right s M) (cond t (letter_for ds d (v.content d) ∷ []) [] ++ letters_to k (suc d) ds v)
      go true i rest = (h d i, rest)
      go false i rest = rest

  letters_right : (vs : List Delivery) → Each (Heard s M ds) vs → Each (Right s M) (letters_of ds vs)
  unfolding letters_of
  letters_right [] h = tt
  letters_right (v ∷ vs) h = each_append (Right s M) (letters_to 8 0 ds v) (letters_of ds vs) (letters_to_lem 8 0 v h.0) (letters_right vs h.1)

module _ (M : Number → Type 0) (s : LineSet) (ok : SetOk s) (shaped : Shaped s) (among : AllAmong M s) where
  abbrev around : Around
  around = around_of s M

  all-listen : (c : Channel) → AllListen around c (listeners_of s.desks s.size.desks c)
  all-listen c d h =
      let exactly = listeners_exactly s.desks s.size.desks c d (omega (arith, shaped.four-desks)) in
      let b = both (runs_at (take s.size.desks s.desks) d) (is_in d c.entitled) (sym exactly ∙ h) in
      (running_in s d b.0, b.1)

  moves : (v : Event) (c : Channel) → Fits v c → FitsAmong around v c → ChannelOk c → Among around c → StepAmong around c (moved_in s.desks s.size.desks v c)
  moves v c h g o a = stays-among around v (listeners_of s.desks s.size.desks c) c h g (all-listen c) o a

  -- one channel, by its code
  at-among : (ch : ℕ) → Among around (channel_at s ch)
  at-among ch =
      each_at (Among around) (channels_of s) no_channel (each_take (Among around) s.size.channels s.channels among) (free_is_among around 0 0) (place_in s ch)

  on-tells : (ch : ℕ) (v : Event) → has_channel s ch ≡ true → Fits v (channel_at s ch) → FitsAmong around v (channel_at s ch) → Tells M s (on_channel s ch v)
  unfolding on_channel
  on-tells ch v has h g =
      let c = channel_at s ch in
      let k = moves v c h g (at_ok s ok ch) (at-among ch) in
      let found : channel_at s c.code ≡ c = ap (channel_at s) (place-code ch (channels_of s) (ltb-true _ _ has)) in
      record {
        among-after = each_set (Among around) s.channels (place_in s ch) _ among k.next-among;
        sent-right = sends-heard s M c found _ k.sends-told;
      }

  -- all channels of the plan
  abbrev Here : Channel → Type 0
  Here c = (ChannelOk c × Among around c) × ((0 ≤ c.code) × Found (channels_of s) c)

  all_here : Each Here (channels_of s)
  all_here =
      each_both _ _ (channels_of s)
      (each_both ChannelOk (Among around) (channels_of s) (planned-ok s ok) (each_take (Among around) s.size.channels s.channels among))
      (rising_found 0 (channels_of s) shaped.codes_rise)

  all-heard : (f : Channel → List Send) → ((c : Channel) → Here c → Each (SendTold around c) (f c)) → (cs : List Channel) → Each Here cs
      → Each (Heard s M s.desks) (sends_of s.desks f cs)
  unfolding sends_of
  all-heard f h [] o = tt
  all-heard f h (c ∷ cs) o =
      each_append (Heard s M s.desks) (delivered s.desks c.code (f c)) (sends_of s.desks f cs)
      (sends-heard s M c o.0.1.1 (f c) (h c o.0))
      (all-heard f h cs o.1)

  all-next : (cs : List Channel) → Each Here cs → Each (Among around) (map (ticked s.desks s.size.desks) cs)
  all-next [] o = tt
  all-next (c ∷ cs) o = ((moves Tick c tt tt o.0.0.0 o.0.0.1).next-among, all-next cs o.1)

  tick-tells : Tells M s (on_tick s)
  unfolding on_tick
  tick-tells = record {
    among-after = each_append (Among around) (map (ticked s.desks s.size.desks) (channels_of s)) _ (all-next (channels_of s) all_here) (each_drop (Among around) s.size.channels s.channels among);
    sent-right = all-heard (tick_sends s.desks s.size.desks) (λ c o. (moves Tick c tt tt o.0.0 o.0.1).sends-told) (channels_of s) all_here;
  }

  ended-told : (c : Channel) → Here c → Each (SendTold around c) (end_sends s.desks s.size.desks c)
  ended-told c o =
      each_append (SendTold around c) (moved_in s.desks s.size.desks EndTalk c).sends (moved_in s.desks s.size.desks EndCall c).sends
      (moves EndTalk c tt tt o.0.0 o.0.1).sends-told
      (moves EndCall c tt tt o.0.0 o.0.1).sends-told

  handover_tells : Tells M s (on_handover s)
  unfolding on_handover
  handover_tells = record { among-after = fillers (around_of new_set M) 32; sent-right = all-heard (end_sends s.desks s.size.desks) ended-told (channels_of s) all_here }

  -- a link that changes is of a desk that does not run yet
  linked-among : (d : ℕ) (f : Link → Link) → runs_at s.desks d ≡ false → AllAmong M (with_link d f s)
  linked-among d f n =
      each_map (Among around) (Among (around_of (with_link d f s) M))
      (among-more M s (with_link d f s) (λ j r. (r.0, runs-linked d j f s.desks n r.1)) (λ j. own-linked d j f s.desks))
      s.channels among

  -- telegrams, by the rows 7, 11 and 12
  abbrev FitsBy : ℕ → Event → Type 0
  FitsBy d v = (c : Channel) → Listens around c d → Fits v c × FitsAmong around v c

  in_phase_lem : (d k : ℕ) → (get_or s.desks d no_desk).link.phase ≡ k → (k ≡ 3 → ⊥) → runs_at s.desks d ≡ false
  in_phase_lem d k p n = ne_eqb _ 3 (λ q. n (sym p ∙ q))

  request-tells : (d : ℕ) (q : Request) → OnEvent (FitsBy d) q → d < s.size.desks → (get_or s.desks d no_desk).link.phase ≡ phase_of q
      → named true (λ ch n. may_use (lookup_in s (channel_in q)) d) (λ m. may_use (lookup_in s (channel_in q)) d) q ≡ true
      → Tells M s (on_request (answers_in s d q) s d q)
  request-tells d (OfLink TellsTime) h l p u =
      let to-it : Heard s M s.desks (record { recipients = only d; content = λ j. telegram OperationRequest }) =
      λ j i. (rw (← only-is j d i) l, (refl, (tt, tt))) in
      record { among-after = linked-among d time_told (in_phase_lem d 1 p (λ z. omega arith)); sent-right = (to-it, tt) }
  request-tells d (OfLink (TellsState a)) h l p u = record { among-after = linked-among d (answered a) (in_phase_lem d 2 p (λ z. omega arith)); sent-right = tt }
  request-tells d (OnChannel ch n v) h l p u =
      let b = both (has_channel s ch) (is_in d (channel_at s ch).entitled) u in
      let fits = h (channel_at s ch) ((l, eq-eqb _ 3 p), b.1) in
      on-tells ch v b.0 fits.0 fits.1
  request-tells d (AnswersRing m) h l p u =
      let c = channel_at s m.channel in
      let b = both (has_channel s m.channel) (is_in d c.entitled) u in
      on-tells m.channel _ b.0 (answer-rings d (own_of s.desks d) m c) ((l, eq-eqb _ 3 p), b.1)
  request-tells d Foreign h l p u = record { among-after = among; sent-right = tt }

  -- ---- every accepted entry

  module _ (e : List ℕ) (x : ReadEntry) (a : AskedOk x) (brings : BringsNumber x → M (number_in (entry_number x))) (z : refusal_of s e x ≡ 0) where
    rows : NoRow s e x
    rows = no_row s e x z

    abbrev asked : Request
    asked = asked_in (entry_desk x) (read_telegram (telegram_in e))

    telegram-tells : entry_kind x ≡ 1 → Tells M s (on_request (answers_in s (entry_desk x) asked) s (entry_desk x) asked)
    telegram-tells k =
        let d = (entry_desk x) in
        let r = read_telegram (telegram_in e) in
        request-tells d asked (asked_in_lem (FitsBy d) d (λ c l. (tt, l)) (λ c l. (tt, l)) r)
        (ltb-true _ _ (not-false _ (rw k at rows.row7-fails)))
        (eqb-true _ _ (not-false _ (rw k at rows.row11-fails)))
        (not-false _ (rw k at rows.row12-fails))

    -- a press goes by the desk's own number
    press-among : (t : Bool) (c : Channel) → FitsAmong around (press_of s x t) c
    press-among true c = refl
    press-among false c = tt

    -- the desk that a mobile calls is a running entitled one
    called_listens : entry_kind x ≡ 9 → Listens around (channel_at s (entry_channel x)) (called_place s.desks s.size.desks (entry_called x))
    called_listens k = all-listen (channel_at s (entry_channel x)) _ ((row-finds s e x z).call-heard k)

    -- by the set served: an entry other than a plan finds one, and a plan finds none (rows 4 and 5)
    abbrev TellsFor : Effect → Type 0
    TellsFor f = Tells M (cond s.planned s f.after) f

    served : (f : Effect) → eqb (entry_kind x) 7 ≡ false → Tells M s f → TellsFor f
    served f k h = go s.planned (eqb (entry_kind x) 7) k rows.row4-fails
      where
        go : (t u : Bool) → u ≡ false → (not t && not u) ≡ false → Tells M (cond t s f.after) f
        go true u p n = h
        go false false p n = absurd (false≢true (sym n))
        go false true p n = absurd (false≢true (sym p))

    made : entry_kind x ≡ 7 → TellsFor (on_plan (plan_in e))
    made k = go s.planned (rw k at rows.row5-fails)
      where
        go : (t : Bool) → (t && true) ≡ false → Tells M (cond t s (set_of (plan_in e))) (on_plan (plan_in e))
        go true n = absurd (false≢true (sym n))
        go false n = plan_tells M (plan_in e) (plan_kept s e x z k)

    pub accepted-tells : TellsFor (accepted s e x)
    unfolding accepted_by accepted
    accepted-tells =
        let fits = entry-fits s ok e x a z in
        let on = on-tells (entry_channel x) in
        pick_each TellsFor (entry_kind x) _ (ways (answers_in s (entry_desk x) asked) s e x) (record { among-after = among; sent-right = tt })
        ((λ k. served _ (rw k) (telegram-tells k))
        ▹ (λ k. served _ (rw k) (on _ (found s e x z 2 refl refl k) (fits.press-fits k) (press-among (eqb (entry_on x) 1) _)))
        ▹ (λ k. served _ (rw k) (on Cut (found s e x z 3 refl refl k) (fits.cut_fits k) tt))
        ▹ (λ k. served _ (rw k) (on _ (found s e x z 4 refl refl k) (fits.on_fits k) (brings (inl k))))
        ▹ (λ k. served _ (rw k) (on MobileOff (found s e x z 5 refl refl k) (fits.off-fits k) tt))
        ▹ (λ k. served _ (rw k) tick-tells)
        ▹ made
        ▹ (λ k. served _ (rw k) handover_tells)
        ▹ (λ k. served _ (rw k) (on _ (found s e x z 9 refl refl k) (fits.ring-fits k) (called_listens k, brings (inr k))))
        ▹ (λ k. served _ (rw k) (on Cancel (found s e x z 10 refl refl k) (fits.cancel_fits k) tt))
        ▹ tt)

-- ---- every entry, every feed

abbrev state_of : List Item → LineSet
state_of = after new_set

module _ (M : Number → Type 0) where
  abbrev effect_of : LineSet → Item → Effect
  effect_of s i = accepted s i.entry (read_entry i.entry)

  item-tells : (f : List Item) (i : Item) → AllAmong M (state_of f) → Brings M i → (step_by (state_of f) i).refusal ≡ 0
      → Tells M (served_by (state_of f) (step_by (state_of f) i)) (effect_of (state_of f) i)
  item-tells f i among b z =
      let s = state_of f in
      let k = accepted-after s i z in
      rw k.1 (accepted-tells M s (always_ok f) (always_shaped f) among i.entry (read_entry i.entry) (asked-ok i.entry) b k.0)

  step-among : (f : List Item) (i : Item) → AllAmong M (state_of f) → Brings M i → AllAmong M (step_by (state_of f) i).after
  step-among f i among b = step_keeps (AllAmong M) (state_of f) i among (λ z. (item-tells f i among b z).among-after)

  feed_among : (g f : List Item) → Each (Brings M) f → AllAmong M (state_of g) → AllAmong M (after (state_of g) f)
  unfolding after
  feed_among g [] b among = among
  feed_among g (i ∷ f) b among =
      let next = after-append new_set g i in
      subst (λ (s : LineSet). AllAmong M (after s f)) next (feed_among (g ++ (i ∷ [])) f b.1 (subst (AllAmong M) (sym next) (step-among g i among b.0)))

pub always_among : AlwaysAmong
unfolding after
always_among M f b = feed_among M [] f b (fillers (around_of new_set M) 32)

pub told-right : ToldRight
unfolding frames_to
told-right M f i bs b = go (eqb (step_by (state_of f) i).refusal 0) refl
  where
    go : (t : Bool) → eqb (step_by (state_of f) i).refusal 0 ≡ t
        → Each (Right (served_by (state_of f) (step_by (state_of f) i)) M) (letters_in (written_in i (step_by (state_of f) i)))
    go true h =
        let z = eqb-true _ 0 h in
        rw (readable f i z) (letters_right (served_by (state_of f) (step_by (state_of f) i)) M _ _ (item-tells M f i (always_among M f bs) b z).sent-right)
    go false h = rw (refused (state_of f) i.entry (length i.buffer) (eqb-false _ 0 h)).0 tt
