-- Messages of events between two instances.
use Rattle.std.specs.Prelude.{ℕ, cond, List, [], ◌∷◌, ◌++◌, ◌==◌}
use Rattle.msc.specs.declared.event.Event.{Event}
use Rattle.msc.specs.declared.event.Event.TheVariants.{Out, In, Action}

-- the name of a message that goes out to q, if the event is such an out
abbrev pub out_to : ℕ → Event → List ℕ
out_to q (Out n t) = cond (t == q) (n ∷ []) []
out_to q (In n t) = []
out_to q (Action n) = []

-- the name of a message that comes in from p, if the event is such an in
abbrev pub in_from : ℕ → Event → List ℕ
in_from p (Out n t) = []
in_from p (In n t) = cond (t == p) (n ∷ []) []
in_from p (Action n) = []

-- the names that f picks out of events, in order
abbrev pub picked : (Event → List ℕ) → List Event → List ℕ
picked f [] = []
picked f (e ∷ es) = f e ++ picked f es
