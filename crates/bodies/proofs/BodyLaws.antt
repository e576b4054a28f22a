-- What the telegrams of a body have in common, whichever desk they go to: their size, and the one that is made first.
-- Assumes nothing.
use Prim.Native.Nat.{ℕ, zero, suc, ◌+◌, ◌*◌, ◌/◌, ◌%◌, ◌^◌, ◌≤◌, ◌<◌}
use mathlib.Core.List.{List}
use mathlib.Core.Bool.{Bool, true, false, cond}
use mathlib.Core.Path.{◌≡◌, refl, sym, ap, subst, ◌∙◌}
use native.Mathlib.Nat.{pow-suc}
use native.Mathlib.Omega.{arith}
use lib.Count.{ones_in, ones, ones_step}
use lib.Dec.{eqb, lit≤}
use lib.Seq.{sets}
use Rattle.numerals.specs.Digits.{digits_of}
use Rattle.telegram.specs.Telegram.{size_of, num, telegram_of}
use Rattle.telegram.specs.declared.message.Number.{Number}
use Rattle.telegram.specs.declared.message.Message.{Message}
use Rattle.telegram.specs.declared.message.Message.TheVariants.{RingNotice as Rung, CallerNotice as Notified, CallResult as Result, CaptureState as State}
use Rattle.telegram.proofs.Kept.{size-most as telegram-most}
use Rattle.telegram_forms.proofs.Kept.{put_caller, put_holder, put_rung, put_called}
use Rattle.line_rules.specs.Rules.{individual, down}
use Rattle.line_rules.specs.Notices.{telegram, contact, content_for}
use Rattle.channel.specs.declared.state.Notice.{Notice}
use Rattle.channel.specs.declared.state.Notice.TheVariants.{PressAnswer, Incoming, BaseArrival, Call, PressNotice, CallerNotice, CaptureReply, CaptureState, RingNotice, AnswerReply, CallResult}
use Rattle.set_rules.specs.Records.{record_size}
use Rattle.bodies.specs.Bodies.{body_for, shape_of, size_in, content_form}
use Rattle.bodies.specs.Promises.{AsContact, NoForm, AsTelegram, HasTelegrams, SizeIs, AtMost51}
use Rattle.bodies.specs.declared.body.Body.{Body}
use Rattle.bodies.specs.declared.body.Body.TheVariants.{About, TimeRequest, OperationRequest}
use Rattle.bodies.specs.declared.shape.Own.{Own}
use Rattle.bodies.specs.declared.shape.Own.TheVariants.{Nobody}
use Rattle.bodies.specs.declared.shape.Shape.{Shape}
use Rattle.bodies.specs.declared.shape.Shape.TheVariants.{Contact, Telegram}

pub either_same : {A : Type 0} (b : Bool) (x : A) → cond b x x ≡ x
either_same true x = refl
either_same false x = refl

abbrev Seen : Body → Shape → Type 0
Seen b (Contact k ch on) = (d : ℕ) (own : Number) → body_for d own b ≡ contact k ch on
Seen b (Telegram o size) = AsTelegram b o size

-- a telegram that says the same to every desk
to-all : (b : Body) (m : Message) → ((d : ℕ) (own : Number) → body_for d own b ≡ telegram m) → AsTelegram b Nobody (5 + size_of m)
to-all b m e = record { says = λ d own. m; content = e; sized = λ d own. refl; ends = omega arith; numbered = λ z c d own. refl }

abbrev state_of : ℕ → ℕ → Number → Message
state_of ch s n = State (record { channel = ch; number = n; state = s })

shown : (x y : Bool) (ch s : ℕ) (own : Number) (z : List ℕ) (c : ℕ)
    → cond x (sets (sets z 0 (telegram_of c (state_of ch s (cond y (num 0) (num 0))))) 20 (digits_of 8 own.digits)) (sets z 0 (telegram_of c (state_of ch s (cond y (num 0) (num 0)))))
    ≡ sets z 0 (telegram_of c (state_of ch s (cond x own (num 0))))
shown true y ch s own z c = put_holder z c _ own
shown false y ch s own z c = rw (either_same y (num 0)) refl

seen : (b : Body) → Seen b (shape_of b)
seen (About ch (PressAnswer on)) = λ d own. refl
seen (About ch (Incoming on)) = λ d own. refl
seen (About ch (BaseArrival k b n o)) = to-all _ _ (λ d own. refl)
seen (About ch (Call k di b s st r)) = to-all _ _ (λ d own. refl)
seen (About ch (PressNotice k o)) = record {
  says = λ d own. Notified (record { channel = ch; base = 999; kind = k; direction = down; number = own; order = o });
  content = λ d own. refl;
  sized = λ d own. refl;
  ends = lit≤ tt;
  numbered = λ z c d own. put_caller z c _ own;
}
seen (About ch (CallerNotice k b n o)) = to-all _ _ (λ d own. refl)
seen (About ch (CaptureReply r)) = to-all _ _ (λ d own. refl)
seen (About ch (CaptureState h s)) = record {
  says = λ d own. state_of ch s (cond (eqb h d) own (num 0));
  content = λ d own. refl;
  sized = λ d own. refl;
  ends = lit≤ tt;
  numbered = λ z c d own. shown (eqb h d) (eqb h 0) ch s own z c;
}
seen (About ch (RingNotice n)) = record {
  says = λ d own. Rung (record { channel = ch; kind = individual; source = n; destination = own });
  content = λ d own. refl;
  sized = λ d own. refl;
  ends = lit≤ tt;
  numbered = λ z c d own. put_rung z c _ own;
}
seen (About ch (AnswerReply r)) = to-all _ _ (λ d own. refl)
seen (About ch (CallResult r)) = record {
  says = λ d own. Result (record { channel = ch; kind = individual; result = r; destination = own });
  content = λ d own. refl;
  sized = λ d own. refl;
  ends = lit≤ tt;
  numbered = λ z c d own. put_called z c _ own;
}
seen TimeRequest = to-all _ _ (λ d own. refl)
seen OperationRequest = to-all _ _ (λ d own. refl)

pub as_contact : (b : Body) {k ch on : ℕ} → AsContact b k ch on
as_contact b h = subst (Seen b) h (seen b)

pub no_form : (b : Body) {k ch on : ℕ} → NoForm b k ch on
no_form b h = sym (ap content_form (as_contact b h 0 (num 0)))

pub as_telegram : (b : Body) {o : Own} {size : ℕ} → HasTelegrams b o size
as_telegram b h = subst (Seen b) h (seen b)

pub size_is : {b : Body} {o : Own} {size : ℕ} → SizeIs b o size
size_is t d own = t.sized d own ∙ sym (ap record_size (t.content d own))

pub size-most : {b : Body} {o : Own} {size : ℕ} → AtMost51 b o size
size-most t = omega (arith, t.sized 0 (num 0), telegram-most (t.says 0 (num 0)))

-- a record takes the same space whatever desk it is for, whatever its own number, and whatever channel it is about
size-seen : (b : Body) (s : Shape) → Seen b s → (d : ℕ) (own : Number) → (size_in s ≡ record_size (body_for d own b)) × (size_in s ≤ 51)
size-seen b (Contact k ch on) e d own = (sym (ap record_size (e d own)), lit≤ tt)
size-seen b (Telegram o size) t d own = (size_is t d own, size-most t)

pub body-size : (b : Body) (d : ℕ) (own : Number) → (size_in (shape_of b) ≡ record_size (body_for d own b)) × (size_in (shape_of b) ≤ 51)
body-size b = size-seen b (shape_of b) (seen b)

any_channel : (ch : ℕ) (n : Notice) → size_in (shape_of (About 0 n)) ≡ size_in (shape_of (About ch n))
any_channel ch (PressAnswer on) = refl
any_channel ch (Incoming on) = refl
any_channel ch (BaseArrival k b n o) = refl
any_channel ch (Call k di b s st r) = refl
any_channel ch (PressNotice k o) = refl
any_channel ch (CallerNotice k b n o) = refl
any_channel ch (CaptureReply r) = refl
any_channel ch (CaptureState h s) = refl
any_channel ch (RingNotice n) = refl
any_channel ch (AnswerReply r) = refl
any_channel ch (CallResult r) = refl

pub notice_size : (d : ℕ) (own : Number) (ch : ℕ) (n : Notice) → size_in (shape_of (About 0 n)) ≡ record_size (content_for d own ch n)
notice_size d own ch n = any_channel ch n ∙ (body-size (About ch n) d own).0

-- ---- the number of ones

-- a number of k digits has its ones among them
pub ones_in_lem : (k n : ℕ) → n < 2 ^ k → ones_in k n ≡ ones n
unfolding ones_in ones
ones_in_lem zero n h = let z : n ≡ 0 = omega arith in rw z refl
ones_in_lem (suc k) n h =
    let p : n < 2 ^ k * 2 = rw pow-suc at h in
    ap (λ (x : ℕ). n % 2 + x) (ones_in_lem k (n / 2) (omega arith)) ∙ sym (ones_step n)
