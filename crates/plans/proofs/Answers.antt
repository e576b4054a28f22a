-- What the answers of a plan's readers say of its bytes, and which of its parts they are given.
-- Assumes nothing.
use Prim.Native.Nat.{ℕ, ◌+◌, ◌-◌, ◌*◌, ◌≤◌}
use mathlib.Core.List.{List}
use mathlib.Core.Bool.{true, false, ◌&&◌}
use mathlib.Core.Path.{◌≡◌, sym, ap, ◌∙◌}
use lib.Dec.{leb, eqb}
use lib.ListN.{length, take, drop}
use borrow.Author.Tests.{leb-true, eqb-true}
use Rattle.std.specs.Prelude.{Option, Some, None}
use Rattle.std.proofs.lemmas.Option.{cond_some}
use Rattle.laws.proofs.Lists.{part_to_end}
use Rattle.laws.proofs.Tests.{both, cond_none}
use Rattle.fields.specs.Fields.{between}
use Rattle.channel.specs.declared.state.Channel.{Channel}
use Rattle.set_state.specs.State.{no_desk, no_channel}
use Rattle.set_state.specs.declared.state.Desk.{Desk}
use Rattle.set_state.specs.declared.state.Size.{Size}
use Rattle.set_rules.specs.Plan.{desks_ok, desks_in, channels_ok, channels_in, desk_count, desks_part, channel_count, channels_part, filled}
use Rattle.set_rules.proofs.Kept.{length-desks}
use Rattle.plans.specs.Planned.{counts_ok, counts_in, size_of, desks_read, channels_read}
use Rattle.plans.proofs.Filled.{take-filled}

-- ---- the counts

-- what it says of a plan that these counts were read of it
pub record Sized (p : List ℕ) (s : Size) : Type 0 where
  pub ok : counts_ok p ≡ true
  pub is : size_of p ≡ s
  pub desks : s.desks ≡ desk_count p
  pub channels : s.channels ≡ channel_count p
  pub few_desks : desk_count p ≤ 4
  pub few_channels : channel_count p ≤ 32
  pub size : length p ≡ 2 + 10 * desk_count p + 2 * channel_count p

pub sized : (p : List ℕ) (s : Size) (r : Option Size) → r ≡ counts_in p → r ≡ Some s → Sized p s
unfolding counts_ok
sized p s r e f =
    let t = cond_some (counts_ok p) (size_of p) s (sym e ∙ f) in
    let a = both (between 1 4 (desk_count p) && between 1 32 (channel_count p)) (eqb (length p) (2 + 10 * desk_count p + 2 * channel_count p)) t.0 in
    let b = both (between 1 4 (desk_count p)) (between 1 32 (channel_count p)) a.0 in
    record {
      ok = t.0;
      is = t.1;
      desks = ap (λ (k : Size). k.desks) (sym t.1);
      channels = ap (λ (k : Size). k.channels) (sym t.1);
      few_desks = leb-true _ _ (both (leb 1 (desk_count p)) (leb (desk_count p) 4) b.0).1;
      few_channels = leb-true _ _ (both (leb 1 (channel_count p)) (leb (channel_count p) 32) b.1).1;
      size = eqb-true _ _ a.1;
    }

-- ---- the desks, of the bytes behind the first

abbrev pub desks_of : List ℕ → List Desk
desks_of p = desks_in (desk_count p) (desks_part p)

-- what it says of a plan that these n desks were read of it
pub record Found (p : List ℕ) (n : ℕ) (ds : List Desk) : Type 0 where
  pub ok : desks_ok (desk_count p) (desks_part p) ≡ true
  pub are : ds ≡ filled 4 no_desk (desks_of p)
  pub taken : take n ds ≡ desks_of p
  pub long : length (take n ds) ≡ n

module _ (p : List ℕ) (n : ℕ) (c : n ≡ desk_count p) (r : Option (List Desk)) (e : r ≡ desks_read n (take (length p - 1) (drop 1 p))) where
  desks-given : r ≡ desks_read (desk_count p) (desks_part p)
  desks-given = e ∙ rw (part_to_end p 1, c)

  pub desks-found : (ds : List Desk) → r ≡ Some ds → Found p n ds
  unfolding desks_read
  desks-found ds f =
      let t = cond_some (desks_ok (desk_count p) (desks_part p)) (filled 4 no_desk (desks_of p)) ds (sym desks-given ∙ f) in
      let l = length-desks (desk_count p) (desks_part p) in
      let k : take n ds ≡ desks_of p = rw (c, ← t.1) (take-filled (desk_count p) 4 no_desk (desks_of p) l) in
      record { ok = t.0; are = sym t.1; taken = k; long = ap length k ∙ l ∙ sym c }

  pub desks-missing : r ≡ None → desks_ok (desk_count p) (desks_part p) ≡ false
  unfolding desks_read
  desks-missing f = cond_none _ (filled 4 no_desk (desks_of p)) (sym desks-given ∙ f)

-- ---- the channels, of the bytes behind the desks and the count of channels

module _ (p : List ℕ) (s : Size) (k : Sized p s) (r : Option (List Channel))
    (e : r ≡ channels_read s.channels s.desks (take (length p - (2 + 10 * s.desks)) (drop (2 + 10 * s.desks) p))) where
  channels-given : r ≡ channels_read (channel_count p) (desk_count p) (channels_part p)
  channels-given = e ∙ rw (part_to_end p (2 + 10 * s.desks), k.desks, k.channels)

  pub channels-found : (cs : List Channel) → r ≡ Some cs
      → (channels_ok (channel_count p) 0 (desk_count p) (channels_part p) ≡ true) × (filled 32 no_channel (channels_in (channel_count p) (channels_part p)) ≡ cs)
  unfolding channels_read
  channels-found cs f = cond_some _ _ cs (sym channels-given ∙ f)

  pub channels-missing : r ≡ None → channels_ok (channel_count p) 0 (desk_count p) (channels_part p) ≡ false
  unfolding channels_read
  channels-missing f = cond_none _ (filled 32 no_channel (channels_in (channel_count p) (channels_part p))) (sym channels-given ∙ f)
