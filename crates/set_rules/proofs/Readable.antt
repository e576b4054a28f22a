-- In every state that a feed brings about the set is as `SetOk` says, and every telegram that it sends reads as meant.
-- Assumes nothing.
use Prim.Native.Nat.{ℕ, zero, suc, ◌+◌, ◌-◌, ◌*◌, ◌^◌, ◌≤◌, ◌<◌}
use mathlib.Core.List.{List, [], ◌∷◌, ◌++◌, map, map-append}
use mathlib.Core.Bool.{Bool, true, false, ◌&&◌, cond, false≢true}
use mathlib.Core.Path.{◌≡◌, refl, sym, ap, ◌∙◌}
use native.Mathlib.Omega.{arith}
use native.Mathlib.Nat.{pow-le-pow_right}
use lib.Dec.{eqb, leb}
use lib.ListN.{length, length-take, take, drop, get_or, replicate}
use borrow.Author.Tests.{leb-true, le-leb, eqb-false, not-false}
use Rattle.std.specs.Prelude.{Some, None, Ok, Err}
use Rattle.laws.specs.Each.{Each}
use Rattle.laws.proofs.Each.{◌▹◌, each_at, each_set, each_take, each_drop, each_append, each_same}
use Rattle.laws.proofs.Tests.{both, by_test, either}
use Rattle.numerals.specs.Digits.{all_digits, value_of, digits_in}
use Rattle.fields.specs.Fields.{all_in, between}
use Rattle.telegram.specs.Telegram.{num, in_range, read_telegram, telegram_of}
use Rattle.telegram.specs.declared.message.Message.{Message}
use Rattle.telegram.specs.declared.message.Message.TheVariants.{TimeRequest, OperationRequest}
use Rattle.telegram.specs.Telegram.{under}
use Rattle.numerals.proofs.Kept.{value_below}
use Rattle.telegram.proofs.Kept.{reads-back}
use Rattle.channel.specs.State.{only, first_desks, is_in, is_held}
use Rattle.line_rules.specs.Rules.{happens, is_pressed}
use Rattle.line_rules.specs.Notices.{Content, telegram, contact, content_for}
use Rattle.channel.specs.declared.state.Channel.{Channel}
use Rattle.channel.specs.declared.state.Event.{Event}
use Rattle.channel.specs.declared.state.Event.TheVariants.{Cut, PressOn, PressOff, MobileOn, MobileOff, Ring, Cancel, Tick, EndTalk, EndCall}
use Rattle.channel.specs.declared.state.Send.{Send}
use Rattle.set_state.specs.State.{new_set, no_desk, no_channel, own_of, listeners_of, channels_of, place_in, channel_at, time_told, answered, with_link}
use Rattle.frames.specs.Bytes.{byte, word}
use Rattle.set_state.specs.declared.state.Refusal.{Refusal}
use Rattle.set_state.specs.declared.state.Refusal.TheVariants.{Length, Version, Payload}
use Rattle.set_rules.specs.Entries.{read_entry, measured, payload, payload_ok, size_ok, telegram_in, plan_in, entry_kind, entry_desk, entry_channel, entry_on, entry_base, entry_number, entry_called, ReadEntry}
use Rattle.set_rules.specs.Plan.{desk_ok, desks_ok, desks_in, channels_ok, channels_in, desk_count, desks_part, channel_count, channels_part, distinct, plan_ok, set_of}
use Rattle.set_rules.specs.Refusals.{asked_in, number_in, called_place, refusal_of}
use Rattle.set_rules.specs.Records.{Delivery, delivered, record_for}
use Rattle.set_rules.specs.SetRules.{Effect, telegram_to, sends_of, on_channel, ticked, tick_sends, end_sends, on_tick, on_handover, on_plan, answers_in, on_request, ways, time_taken, answer_taken, accepted_by, accepted}
use Rattle.set_rules.specs.Feeds.{after}
use Rattle.line_rules.specs.Invariant.{NumberOk, ChannelOk, Fits, SendOk, SendsOk, ContentOk}
use Rattle.line_rules.proofs.Kept.{free_is_ok, stays-ok, says_in_range}
use Rattle.set_rules.specs.Invariant.{DeskOk, SetOk}
use Rattle.set_rules.specs.Letters.{read_record, letters_in, letter_for, letters_to, letters_of}
use Rattle.set_rules.specs.Promises.{Readable, AlwaysOk}
use Rattle.set_state.specs.declared.state.Link.{Link}
use Rattle.set_state.specs.declared.state.Desk.{Desk}
use Rattle.set_state.specs.declared.state.LineSet.{LineSet}
use Rattle.set_state.specs.declared.state.LinkRequest.TheVariants.{TellsTime, TellsState}
use Rattle.set_state.specs.declared.state.Request.{Request}
use Rattle.set_state.specs.declared.state.Request.TheVariants.{OfLink, OnChannel, AnswersRing, Foreign}
use Rattle.laws.proofs.Table.{pick_each}
use Rattle.set_rules.proofs.Answers.{written, accepted-done, feed_keeps}
use Rattle.set_rules.proofs.Received.{to_each_one, each_of, cut-records}
use Rattle.set_rules.proofs.Rows.{no_row, row-finds}
use Rattle.set_rules.proofs.Asked.{OnEvent, asked_in_lem, answer-rings}

-- ---- what fills the arrays

no_desk_lem : DeskOk no_desk
no_desk_lem = record { code_ok = omega arith; number_ok = omega arith }

no_channel_lem : ChannelOk no_channel
no_channel_lem = free_is_ok 0 0 (omega arith)

desk_ok_lem : (ds : List Desk) → Each DeskOk ds → (d : ℕ) → DeskOk (get_or ds d no_desk)
desk_ok_lem ds o d = each_at DeskOk ds no_desk o no_desk_lem d

no_desks_lem : (n : ℕ) → Each DeskOk (replicate n no_desk)
no_desks_lem n = each_same DeskOk n no_desk no_desk_lem

no_channels_lem : (n : ℕ) → Each ChannelOk (replicate n no_channel)
no_channels_lem n = each_same ChannelOk n no_channel no_channel_lem

-- ---- what is sent reads

-- every telegram of a delivery reads, under its desk's code, as the message that the rule names
abbrev pub Reads : List Desk → Delivery → Type 0
Reads ds v =
    (d : ℕ) (m : Message) → v.content d ≡ telegram m → read_telegram (telegram_of (get_or ds d no_desk).code m) ≡ Ok (under (get_or ds d no_desk).code m)

abbrev pub AllRead : List Desk → List Delivery → Type 0
AllRead ds = Each (Reads ds)

content-reads : (code : ℕ) (x : Content) → code ≤ 1023 → ContentOk x → (m : Message) → x ≡ telegram m → read_telegram (telegram_of code m) ≡ Ok (under code m)
content-reads code (telegram m') h k m e =
    let q : m' ≡ m = cc in
    reads-back code m (simp (le-leb code 1023 h, ap in_range (sym q) ∙ k))
content-reads code (contact k' ch on) h k m e = absurd (let z : ◌≡◌ {A = ℕ} 0 1 = cc in omega arith)

sent-reads : (ds : List Desk) → Each DeskOk ds → (ch : ℕ) → ch ≤ 99 → (ss : List Send) → SendsOk ss → AllRead ds (delivered ds ch ss)
unfolding delivered
sent-reads ds o ch h [] k = tt
sent-reads ds o ch h (s ∷ ss) k =
    let one : Reads ds (record { recipients = s.recipients; content = λ d. content_for d (own_of ds d) ch s.notice }) =
    λ d m e.
    let own = desk_ok_lem ds o d in
    content-reads (get_or ds d no_desk).code (content_for d (own_of ds d) ch s.notice) own.code_ok (says_in_range d (own_of ds d) ch s.notice own.number_ok h k.0) m e in
    (one, sent-reads ds o ch h ss k.1)

-- a telegram that is in range whatever it says
plain-reads : (ds : List Desk) → Each DeskOk ds → (to : ℕ) (m : Message) → in_range m ≡ true → AllRead ds (telegram_to to m)
plain-reads ds o to m h = (λ d m' e. content-reads (get_or ds d no_desk).code (telegram m) (desk_ok_lem ds o d).code_ok h m' e, tt)

-- ---- what telegrams ask fits every channel

abbrev FitsAll : Event → Type 0
FitsAll v = (c : Channel) → Fits v c

-- ---- effects

record EffectOk (f : Effect) : Type 0 where
  set-ok : SetOk f.after
  sent-ok : AllRead f.desks f.sent

module _ (s : LineSet) (ok : SetOk s) where
  own-ok : (d : ℕ) → NumberOk (own_of s.desks d)
  own-ok d = (desk_ok_lem s.desks ok.desks-ok d).number_ok

  pub at_ok : (ch : ℕ) → ChannelOk (channel_at s ch)
  at_ok ch = each_at ChannelOk (channels_of s) no_channel (each_take ChannelOk s.size.channels s.channels ok.channels-ok) no_channel_lem (place_in s ch)

  on-ok : (ch : ℕ) (v : Event) → Fits v (channel_at s ch) → EffectOk (on_channel s ch v)
  unfolding on_channel
  on-ok ch v h =
      let c = channel_at s ch in
      let k = stays-ok v (listeners_of s.desks s.size.desks c) c h (at_ok ch) in
      record {
        set-ok = record { desks-ok = ok.desks-ok; channels-ok = each_set ChannelOk s.channels (place_in s ch) _ ok.channels-ok k.next-ok };
        sent-ok = sent-reads s.desks ok.desks-ok c.code (at_ok ch).is_in_range.code_ok _ k.sends-ok;
      }

  all_read : (f : Channel → List Send) → ((c : Channel) → ChannelOk c → SendsOk (f c)) → (cs : List Channel) → Each ChannelOk cs → AllRead s.desks (sends_of s.desks f cs)
  unfolding sends_of
  all_read f h [] o = tt
  all_read f h (c ∷ cs) o =
      each_append (Reads s.desks) (delivered s.desks c.code (f c)) (sends_of s.desks f cs)
      (sent-reads s.desks ok.desks-ok c.code o.0.is_in_range.code_ok (f c) (h c o.0))
      (all_read f h cs o.1)

  all-next : (cs : List Channel) → Each ChannelOk cs → Each ChannelOk (map (ticked s.desks s.size.desks) cs)
  all-next [] o = tt
  all-next (c ∷ cs) o = ((stays-ok Tick _ c tt o.0).next-ok, all-next cs o.1)

  pub planned-ok : Each ChannelOk (channels_of s)
  planned-ok = each_take ChannelOk s.size.channels s.channels ok.channels-ok

  tick-ok : EffectOk (on_tick s)
  unfolding on_tick
  tick-ok = record {
    set-ok = record { desks-ok = ok.desks-ok; channels-ok = each_append ChannelOk (map (ticked s.desks s.size.desks) (channels_of s)) _ (all-next (channels_of s) planned-ok) (each_drop ChannelOk s.size.channels s.channels ok.channels-ok) };
    sent-ok = all_read (tick_sends s.desks s.size.desks) (λ c o. (stays-ok Tick _ c tt o).sends-ok) (channels_of s) planned-ok;
  }

  ended-ok : (c : Channel) → ChannelOk c → SendsOk (end_sends s.desks s.size.desks c)
  ended-ok c o =
      let e = listeners_of s.desks s.size.desks c in
      each_append SendOk (happens EndTalk e c).sends (happens EndCall e c).sends (stays-ok EndTalk e c tt o).sends-ok (stays-ok EndCall e c tt o).sends-ok

  handover_ok : EffectOk (on_handover s)
  unfolding on_handover
  handover_ok = record {
    set-ok = record { desks-ok = no_desks_lem 4; channels-ok = no_channels_lem 32 };
    sent-ok = all_read (end_sends s.desks s.size.desks) ended-ok (channels_of s) planned-ok;
  }

  link_ok : (d : ℕ) (f : Link → Link) → SetOk (with_link d f s)
  link_ok d f =
      let k = desk_ok_lem s.desks ok.desks-ok d in
      record { desks-ok = each_set DeskOk s.desks d _ ok.desks-ok (record { code_ok = k.code_ok; number_ok = k.number_ok }); channels-ok = ok.channels-ok }

  time_ok : (d : ℕ) → EffectOk (time_taken s d)
  unfolding all_in
  time_ok d = record { set-ok = link_ok d time_told; sent-ok = plain-reads s.desks ok.desks-ok (only d) OperationRequest refl }

  answer_ok : (d a : ℕ) → EffectOk (answer_taken s d a)
  answer_ok d a = record { set-ok = link_ok d (answered a); sent-ok = tt }

  request-ok : (d : ℕ) (q : Request) → OnEvent FitsAll q → EffectOk (on_request (answers_in s d q) s d q)
  request-ok d (OfLink TellsTime) h = time_ok d
  request-ok d (OfLink (TellsState a)) h = answer_ok d a
  request-ok d (OnChannel ch n v) h = on-ok ch v (h (channel_at s ch))
  request-ok d (AnswersRing m) h = on-ok m.channel _ (answer-rings d (own_of s.desks d) m (channel_at s m.channel))
  request-ok d Foreign h = record { set-ok = ok; sent-ok = tt }

-- ---- a plan that keeps its rules

-- what at most eight digits spell
eight-below : (b : List ℕ) → length b ≤ 8 → all_digits b ≡ true → value_of b < 10 ^ 8
eight-below b l h =
    let p : 10 ^ length b ≤ 10 ^ 8 = pow-le-pow_right (omega arith) {i = length b} {j = 8} l in
    omega (arith, value_below b h)

eight-taken : (b : List ℕ) → length (take 8 b) ≤ 8
eight-taken b = simp length-take (omega arith)

desks_in_lem : (n : ℕ) (b : List ℕ) → desks_ok n b ≡ true → Each DeskOk (desks_in n b)
unfolding desks_ok desks_in
desks_in_lem zero b h = tt
desks_in_lem (suc n) b h =
    let a = both (desk_ok b) (desks_ok n (drop 10 b)) h in
    let f = both (leb (word b 0) 1023 && all_digits (take 8 (drop 2 b))) _ a.0 in
    let g = both (leb (word b 0) 1023) (all_digits (take 8 (drop 2 b))) f.0 in
    (record { code_ok = leb-true _ _ g.0; number_ok = eight-below (take 8 (drop 2 b)) (eight-taken (drop 2 b)) g.1 }, desks_in_lem n (drop 10 b) a.1)

channels_in_lem : (n low desks : ℕ) (b : List ℕ) → channels_ok n low desks b ≡ true → Each ChannelOk (channels_in n b)
unfolding channels_ok channels_in
channels_in_lem zero low desks b h = tt
channels_in_lem (suc n) low desks b h =
    let a = both _ _ h in
    let f = both _ _ a.0 in
    let g = both (leb low (byte b 0)) _ f.0 in
    (free_is_ok (byte b 0) (byte b 1) (leb-true _ _ g.1), channels_in_lem n _ desks (drop 2 b) a.1)

plan_ok_lem : (p : List ℕ) → plan_ok p ≡ true → EffectOk (on_plan p)
unfolding plan_ok set_of all_in
plan_ok_lem p h =
    let a = both _ (channels_ok (channel_count p) 0 (desk_count p) (channels_part p)) h in
    let f = both _ (distinct (desks_in (desk_count p) (desks_part p))) a.0 in
    let g =
    both (between 1 4 (desk_count p) && between 1 32 (channel_count p) && eqb (length p) (2 + 10 * desk_count p + 2 * channel_count p)) (desks_ok (desk_count p) (desks_part p)) f.0 in
    let ds = desks_in_lem (desk_count p) (desks_part p) g.1 in
    let cs = channels_in_lem (channel_count p) 0 (desk_count p) (channels_part p) a.1 in
    let d = each_append DeskOk (desks_in (desk_count p) (desks_part p)) _ ds (no_desks_lem (4 - length (desks_in (desk_count p) (desks_part p)))) in
    let c = each_append ChannelOk (channels_in (channel_count p) (channels_part p)) _ cs (each_same ChannelOk (32 - length (channels_in (channel_count p) (channels_part p))) _ (free_is_ok _ 0 (leb-true _ 99 refl))) in
    record { set-ok = record { desks-ok = d; channels-ok = c }; sent-ok = plain-reads (set_of p).desks d (first_desks (desk_count p)) TimeRequest refl }

-- ---- what an entry asks for

pub record AskedOk (x : ReadEntry) : Type 0 where
  pub on-ok : entry_on x ≤ 1
  pub base_ok : entry_base x ≤ 29
  pub number_ok : NumberOk (number_in (entry_number x))

number_in_lem : (b : List ℕ) → length b ≤ 8 → NumberOk (number_in (digits_in b))
number_in_lem b l = go (leb (length b) 9 && all_digits b) refl
  where
    go : (t : Bool) → (leb (length b) 9 && all_digits b) ≡ t → NumberOk (number_in (cond t (Some (value_of b)) None))
    go true h = eight-below b l (both (leb (length b) 9) (all_digits b) h).1
    go false h = omega arith

none-ok : NumberOk (num 0)
none-ok = omega arith

abbrev Numbered : ReadEntry → Type 0
Numbered x = NumberOk (number_in (entry_number x))

payload-number : (k : ℕ) (e : List ℕ) → Numbered (payload k e)
unfolding entry_number
payload-number k e =
    let number = number_in_lem (take 8 (drop 6 e)) (eight-taken (drop 6 e)) in
    either Numbered (eqb k 1) _ _ none-ok
    (either Numbered (eqb k 2) _ _ none-ok
    (either Numbered (eqb k 3) _ _ none-ok
    (either Numbered (eqb k 4) _ _ number
    (either Numbered (eqb k 5) _ _ none-ok
    (either Numbered (eqb k 6) _ _ none-ok
    (either Numbered (eqb k 7) _ _ none-ok
    (either Numbered (eqb k 8) _ _ none-ok
    (either Numbered (eqb k 9) _ _ number
    (either Numbered (eqb k 10) _ _ none-ok none-ok)))))))))

pub asked-ok : (e : List ℕ) → AskedOk (read_entry e)
unfolding read_entry entry_on entry_base entry_number
asked-ok e = go (measured e) (eqb (byte e 2) 1) (payload_ok (byte e 3) e) refl
  where
    refused : (r : Refusal) → AskedOk (Err r)
    refused r = record { on-ok = omega arith; base_ok = omega arith; number_ok = none-ok }

    go : (t u v : Bool) → payload_ok (byte e 3) e ≡ v → AskedOk (cond t (cond u (cond v (payload (byte e 3) e) (Err Payload)) (Err Version)) (Err Length))
    go true true true h =
        let x = payload (byte e 3) e in
        let b = both (size_ok (byte e 3) (length e) && leb (entry_on x) 1) (leb (entry_base x) 29) h in
        let o = both (size_ok (byte e 3) (length e)) (leb (entry_on x) 1) b.0 in
        record { on-ok = leb-true _ 1 o.1; base_ok = leb-true _ 29 b.1; number_ok = payload-number (byte e 3) e }
    go true true false h = refused Payload
    go true false v h = refused Version
    go false u v h = refused Length

-- an accepted plan keeps the rules of a plan: row 6
pub plan_kept : (s : LineSet) (e : List ℕ) (x : ReadEntry) → refusal_of s e x ≡ 0 → entry_kind x ≡ 7 → plan_ok (plan_in e) ≡ true
plan_kept s e x z k = not-false (plan_ok (plan_in e)) (rw k at (no_row s e x z).row6-fails)

-- what an accepted entry of a kind does fits the channel that it names
abbrev pub press_of : LineSet → ReadEntry → Bool → Event
press_of s x t = cond t (PressOn (entry_desk x) (own_of s.desks (entry_desk x))) PressOff

abbrev pub ring_of : LineSet → ReadEntry → Event
ring_of s x = Ring (called_place s.desks s.size.desks (entry_called x)) (entry_base x) (number_in (entry_number x))

pub record EntryFits (s : LineSet) (x : ReadEntry) : Type 0 where
  pub press-fits : entry_kind x ≡ 2 → Fits (press_of s x (eqb (entry_on x) 1)) (channel_at s (entry_channel x))
  pub cut_fits : entry_kind x ≡ 3 → Fits Cut (channel_at s (entry_channel x))
  pub on_fits : entry_kind x ≡ 4 → Fits (MobileOn (entry_base x) (number_in (entry_number x))) (channel_at s (entry_channel x))
  pub off-fits : entry_kind x ≡ 5 → Fits MobileOff (channel_at s (entry_channel x))
  pub ring-fits : entry_kind x ≡ 9 → Fits (ring_of s x) (channel_at s (entry_channel x))
  pub cancel_fits : entry_kind x ≡ 10 → Fits Cancel (channel_at s (entry_channel x))

pub entry-fits : (s : LineSet) → SetOk s → (e : List ℕ) (x : ReadEntry) → AskedOk x → refusal_of s e x ≡ 0 → EntryFits s x
entry-fits s ok e x a z =
    let f = row-finds s e x z in
    record {
      press-fits = λ k. press k (eqb (entry_on x) 1) refl;
      cut_fits = λ k. ap is_held (f.cut-held k);
      on_fits = λ k. (a.base_ok, a.number_ok, f.mobile-silent k);
      off-fits = λ k. not-false _ (rw k at (no_row s e x z).row15-fails);
      ring-fits = λ k. (a.base_ok, a.number_ok, f.call-idle k);
      cancel_fits = f.cancel_rings;
    }
  where
    -- a press off only while on: row 15
    press : entry_kind x ≡ 2 → (t : Bool) → eqb (entry_on x) 1 ≡ t → Fits (press_of s x t) (channel_at s (entry_channel x))
    press k true o = (own-ok s ok (entry_desk x), (row-finds s e x z).press-held k)
    press k false o =
        let off : entry_on x ≡ 0 = omega (arith, a.on-ok, eqb-false (entry_on x) 1 o) in
        by_test (is_pressed (channel_at s (entry_channel x))) (λ p. p) (λ p. absurd (false≢true (sym (rw (k, p, off) at (no_row s e x z).row15-fails))))

-- ---- every accepted entry, every entry, every feed

accepted-ok : (s : LineSet) → SetOk s → (e : List ℕ) (x : ReadEntry) → AskedOk x → refusal_of s e x ≡ 0 → EffectOk (accepted s e x)
unfolding accepted_by accepted
accepted-ok s ok e x a z =
    let d = (entry_desk x) in
    let r = read_telegram (telegram_in e) in
    let fits = entry-fits s ok e x a z in
    pick_each EffectOk (entry_kind x) _ (ways (answers_in s d (asked_in d r)) s e x) (record { set-ok = ok; sent-ok = tt })
    ((λ k. request-ok s ok d (asked_in d r) (asked_in_lem FitsAll d (λ c. tt) (λ c. tt) r))
    ▹ (λ k. on-ok s ok (entry_channel x) _ (fits.press-fits k))
    ▹ (λ k. on-ok s ok (entry_channel x) Cut (fits.cut_fits k))
    ▹ (λ k. on-ok s ok (entry_channel x) _ (fits.on_fits k))
    ▹ (λ k. on-ok s ok (entry_channel x) MobileOff (fits.off-fits k))
    ▹ (λ k. tick-ok s ok)
    ▹ (λ k. plan_ok_lem (plan_in e) (plan_kept s e x z k))
    ▹ (λ k. handover_ok s ok)
    ▹ (λ k. on-ok s ok (entry_channel x) _ (fits.ring-fits k))
    ▹ (λ k. on-ok s ok (entry_channel x) Cancel (fits.cancel_fits k))
    ▹ tt)

new_ok : SetOk new_set
new_ok = record { desks-ok = no_desks_lem 4; channels-ok = no_channels_lem 32 }

pub always_ok : AlwaysOk
always_ok f = feed_keeps SetOk (λ s e z ok. (accepted-ok s ok e (read_entry e) (asked-ok e) z).set-ok) new_set f new_ok

-- ---- the records among the bytes written

-- a record is read as the letter that was meant
letter_read : (ds : List Desk) (d : ℕ) (x : Content)
    → ((m : Message) → x ≡ telegram m → read_telegram (telegram_of (get_or ds d no_desk).code m) ≡ Ok (under (get_or ds d no_desk).code m))
    → read_record (record_for ds d x) ≡ letter_for ds d x
letter_read ds d (telegram m) h = rw (h m refl)
letter_read ds d (contact k ch on) h = refl

each_read : (k d : ℕ) (ds : List Desk) (v : Delivery) → Reads ds v → map read_record (to_each_one k d ds v) ≡ letters_to k d ds v
unfolding to_each_one letters_to
each_read zero d ds v h = refl
each_read (suc k) d ds v h = go (is_in d v.recipients) (each_read k (suc d) ds v h)
  where
    go : (t : Bool) → map read_record (to_each_one k (suc d) ds v) ≡ letters_to k (suc d) ds v
        → map read_record (cond t (record_for ds d (v.content d) ∷ []) [] ++ to_each_one k (suc d) ds v) ≡ cond t (letter_for ds d (v.content d) ∷ []) [] ++ letters_to k (suc d) ds v
    go true rest = rw (letter_read ds d (v.content d) (h d), rest)
    go false rest = rest

every_read : (ds : List Desk) (vs : List Delivery) → AllRead ds vs → map read_record (each_of ds vs) ≡ letters_of ds vs
unfolding each_of letters_of
every_read ds [] h = refl
every_read ds (v ∷ vs) h = map-append read_record (to_each_one 8 0 ds v) (each_of ds vs) ∙ rw (each_read 8 0 ds v h.0, every_read ds vs h.1)

pub readable : Readable
readable f i z =
    let s = after new_set f in
    let k = accepted-done s i z in
    let x = accepted s i.entry (read_entry i.entry) in
    let o = accepted-ok s (always_ok f) i.entry (read_entry i.entry) (asked-ok i.entry) k.no_refusal in
    ap letters_in ((written s i).1.0 ∙ k.bytes_are)
    ∙ ap (map read_record) (cut-records x.desks x.sent)
    ∙ every_read x.desks x.sent o.sent-ok
