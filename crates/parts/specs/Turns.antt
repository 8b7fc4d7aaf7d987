-- The turns at the events of an instance i in a draft d, behind a first word at q; the repetition stays shut.
use Rattle.std.specs.Prelude.{ℕ, Bool, false, cond, List, []}
use Rattle.msc.specs.declared.event.Event.TheVariants.{Out, In}
use Rattle.msc.specs.declared.event.Event.{Event}
use Rattle.msc.specs.declared.words.Keyword.{Keyword}
use Rattle.lexis.specs.Steps.{Step, got, bad, and_then, repeat}
use Rattle.lexis.specs.declared.refusal.Refusal.TheVariants.{Limit}
use Rattle.parts.specs.declared.events.Way.{Way}
use Rattle.parts.specs.declared.events.Way.TheVariants as way
use Rattle.forms.specs.Drafts.{Draft}
use Rattle.forms.specs.Reading.{message_event_at, action_event_at, has_room, has_room_out, event_turn}

-- the event of a message that goes a way, and whether the draft has room for it
abbrev pub made : Way → ℕ → ℕ → Event
made way.Out n q = Out n q
made way.In n p = In n p

abbrev pub fits : Way → Draft → Bool
fits way.Out d = has_room_out [] d
fits way.In d = has_room [] d

module _ (ws : List (List ℕ)) where
  abbrev pub message_in : Way → Keyword → ℕ → ℕ → Draft → ℕ → List ℕ → Step (Draft × Bool)
  message_in w k i q d p s = cond (fits w d) (and_then (message_event_at ws k (made w) i d p s) λ d p s. got (d, false) p s) (bad (Limit q))

  abbrev pub action_in : ℕ → Draft → ℕ → List ℕ → Step (Draft × Bool)
  action_in q d p s = cond (has_room ws d) (and_then (action_event_at ws d p s) λ d p s. got (d, false) p s) (bad (Limit q))

  -- all events of instance i
  unfoldable pub events_in : ℕ → Draft → ℕ → List ℕ → Step Draft
  events_in i d p s = repeat (event_turn ws i) 65 d p s
