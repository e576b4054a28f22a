-- What a program that prints lines for its input has written, turn by turn.
-- Assumes nothing.
use Rattle.std.proofs.Common.{◌≡◌, ℕ, ◌-◌, List, [], ◌++◌, Some, take, sym, ap, ◌∙◌, subst, append_assoc, append-nil, arith}
use Rattle.std.specs.Io.KnownBytes.{Appends, Consumes}
use Rattle.std.proofs.KnownBytes.{Appends-trans}
use Rattle.std.specs.declared.option.Option.{Option}
use Rattle.streams.specs.Places.{frame_at, unread}
use Rattle.streams.specs.Promises.{came, Begins, Stands, TurnGoes, TurnEnds, Printed}
use Rattle.streams.specs.declared.place.Place.{Place}
use Rattle.streams.proofs.Hands.{hands-first, nothing_left}
use Rattle.streams.proofs.Known.{gives, none_left, sends_on, put_behind}

-- what was written, then what waited in part, and what waits still
joined : (done sent kept all lines : List ℕ) → sent ++ kept ≡ all → (done ++ sent) ++ (kept ++ lines) ≡ done ++ (all ++ lines)
joined done sent kept all lines e =
    append_assoc done sent (kept ++ lines) ∙ ap (λ (l : List ℕ). done ++ l) (sym (append_assoc sent kept lines) ∙ ap (λ (l : List ℕ). l ++ lines) e)

pub turn_goes : TurnGoes
turn_goes all lines x w₀ w x' w' b p text rest most room long b' r s n c d a =
    let g = gives x' rest (came b p b' (Some r)) (subst (λ (y : Option (List ℕ)). Consumes y x' (came b p b' (Some r))) s.known c) in
    let v : List ℕ = g.0 in
    let came-all : unread b p ++ rest ≡ unread b p ++ (came b p b' (Some r) ++ v) = ap (λ (l : List ℕ). unread b p ++ l) g.2 in
    let begins : Begins most (unread b p ++ rest) (frame_at b' r) (unread b' r ++ v) =
    subst (λ (l : List ℕ). Begins most l (frame_at b' r) (unread b' r ++ v)) (sym came-all) (hands-first most room long b p b' r v n (λ t. none_left x' v g.1 (d t))) in (
      v,
      begins,
      λ lines' line text' waits e put f. record {
        done = s.done ++ take (p.waits - r.waits) text;
        known = g.1;
        sent = Appends-trans w₀ w w' _ _ s.sent a;
        told =
            ap (λ (l : List ℕ). (s.done ++ take (p.waits - r.waits) text) ++ (l ++ lines' (unread b' r ++ v))) (put_behind text r.waits line text' waits put f)
            ∙ (ap (λ (l : List ℕ). (s.done ++ take (p.waits - r.waits) text) ++ l) (append_assoc (take r.waits text) line (lines' (unread b' r ++ v)))
            ∙ (joined s.done (take (p.waits - r.waits) text) (take r.waits text) (take p.waits text) (line ++ lines' (unread b' r ++ v)) (sends_on most room long b p b' (Some r) text n)
            ∙ (ap (λ (l : List ℕ). s.done ++ (take p.waits text ++ l)) (sym e) ∙ s.told)));
      },
    )

module _ {all : List ℕ} {lines : List ℕ → List ℕ} {x w₀ w : Option (List ℕ)} {b : List ℕ} {p : Place} {text rest : List ℕ} (s : Stands all lines x w₀ w b p text rest) where
  no_more : lines (unread b p ++ rest) ≡ [] → s.done ++ take p.waits text ≡ all
  no_more e = ap (λ (l : List ℕ). s.done ++ l) (sym (append-nil (take p.waits text)) ∙ ap (λ (l : List ℕ). take p.waits text ++ l) (sym e)) ∙ s.told

pub turn_ends : TurnEnds
turn_ends all lines x w₀ w x' w' b p text rest most room long b' s z n c d a =
    let g = gives x' rest [] (subst (λ (y : Option (List ℕ)). Consumes y x' []) s.known c) in
    let nothing : unread b p ++ rest ≡ [] = ap (λ (l : List ℕ). unread b p ++ l) (g.2 ∙ none_left x' g.0 g.1 d) ∙ nothing_left most room long b p b' n in
    let whole : p.waits - 0 ≡ p.waits = omega arith in
    subst (Appends w₀ w') (ap (λ (k : ℕ). s.done ++ take k text) whole ∙ no_more s (ap lines nothing ∙ z)) (Appends-trans w₀ w w' _ _ s.sent a)

pub printed : Printed
printed all lines x w₀ w w' b p text rest s e a = subst (Appends w₀ w') (no_more s e) (Appends-trans w₀ w w' _ _ s.sent a)
