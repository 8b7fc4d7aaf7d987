-- Messages that go out.
use Rattle.std.specs.Prelude.{Bool, true, false}
use Rattle.msc.specs.declared.event.Event.{Event}
use Rattle.msc.specs.declared.event.Event.TheVariants.{Out, In, Action}

abbrev pub is_out : Event → Bool
is_out (Out n q) = true
is_out (In n p) = false
is_out (Action n) = false
