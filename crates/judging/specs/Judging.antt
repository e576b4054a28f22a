-- The rows from 12 on, once the kind is known: what the functions that judge give. That they are the table's is promised
-- (`LateAsk`, `LateLine`).
use Rattle.std.specs.Prelude.{ℕ, List, Bool, ◌&&◌, ◌||◌, not, cond, eqb, drop, Option}
use Rattle.telegram.specs.declared.message.Number.{Number}
use Rattle.channel.specs.State.{is_in, held_by, is_present}
use Rattle.channel.specs.declared.state.Channel.{Channel}
use Rattle.line_rules.specs.Rules.{is_pressed, is_ringing}
use Rattle.set_rules.specs.Refusals.{Test, table, is_caller, is_idle}
use Rattle.set_state.specs.declared.state.Entry.{Entry}
use Rattle.set_state.specs.declared.state.Entry.TheVariants.{Telegram, Press, Cut, MobileOn, MobileCall, MobileCancel}

-- the table behind the rows 4 to 11, which do not look at a channel
abbrev pub late : List (ℕ × Test)
late = drop 8 table

-- "channel not in the plan, or desk not entitled": neither
abbrev pub usable : ℕ → Bool → Channel → Bool
usable d found c = found && is_in d c.entitled

-- a telegram of desk d: the number that it gives, and the desk's own
abbrev pub ask_refusal : ℕ → Number → Number → Bool → Channel → ℕ
ask_refusal d number own found c =
    cond (not (usable d found c)) 12 (cond (not (eqb number.digits own.digits)) 13 0)

-- cut, press, mobile on and mobile off
abbrev pub cut_refusal : ℕ → Bool → Channel → ℕ
cut_refusal d found c = cond (not (usable d found c)) 12 (cond (not (held_by d c.holder)) 14 0)

abbrev pub press_refusal : ℕ → ℕ → Bool → Channel → ℕ
press_refusal d on found c =
    cond (not (usable d found c)) 12
    (cond (not (held_by d c.holder)) 14
    (cond (eqb on (cond (is_pressed c) 1 0)) 15 0))

abbrev pub mobile_on_refusal : Option ℕ → Bool → Channel → ℕ
mobile_on_refusal number found c =
    cond (not found) 12 (cond (not (is_caller number)) 13 (cond (is_present c.arrival || is_ringing c) 15 0))

abbrev pub mobile_off_refusal : Bool → Channel → ℕ
mobile_off_refusal found c = cond (not found) 12 (cond (not (is_present c.arrival)) 15 0)

-- a mobile call, by whether the called desk listens
abbrev pub call_refusal : Option ℕ → Option ℕ → Bool → Bool → Channel → ℕ
call_refusal number called heard found c =
    cond (not found) 12
    (cond (not (is_caller number && is_caller called)) 13
    (cond (not (heard && is_idle c)) 17 0))

-- a mobile cancel
abbrev pub cancel_refusal : Bool → Channel → ℕ
cancel_refusal found c = cond (not found) 12 (cond (not (is_ringing c)) 17 0)

abbrev pub refusal_by : Entry → Number → Number → Bool → Bool → Channel → ℕ
refusal_by (Telegram d) number own heard found c = ask_refusal d number own found c
refusal_by (Press d ch on) number own heard found c = press_refusal d on found c
refusal_by (Cut d ch) number own heard found c = cut_refusal d found c
refusal_by (MobileOn ch b n) number own heard found c = mobile_on_refusal n found c
refusal_by (MobileCall ch b n m) number own heard found c = call_refusal n m heard found c
refusal_by (MobileCancel ch) number own heard found c = cancel_refusal found c
refusal_by _ number own heard found c = mobile_off_refusal found c
