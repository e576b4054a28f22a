-- What all channels send takes the same space to each desk.
-- Assumes nothing.
use Rattle.set_state.specs.State.{channels_of}
use Rattle.set_rules.specs.SetRules.{on_tick, on_handover}
use Rattle.set_rules.specs.RecordLaws.{AllEven}
use Rattle.set_rules.proofs.Kept.{even_all}
use Rattle.set_state.specs.declared.state.LineSet.{LineSet}

pub even_handover : (s : LineSet) → AllEven (on_handover s).sent
unfolding on_handover
even_handover s = even_all s.desks _ (channels_of s)

pub even_tick : (s : LineSet) → AllEven (on_tick s).sent
unfolding on_tick
even_tick s = even_all s.desks _ (channels_of s)
