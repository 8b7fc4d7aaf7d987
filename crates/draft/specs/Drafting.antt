-- What is done to a draft, beyond what reading says.
use Rattle.std.specs.Prelude.{ℕ, cond, List, [], ◌∷◌, ◌++◌, length, nat_lt, Some, None, Option}
use Rattle.msc.specs.Doc.{Doc}
use Rattle.msc.specs.Spelling.{place}
use Rattle.msc.specs.declared.label.Label.{Label}
use Rattle.forms.specs.Drafts.{Draft}

-- the same, its open part left out
abbrev pub unopened : Draft → Draft
unopened d = record d { part = [] }

-- the names after it and the number of a name w, which is new or among them; at most 128
abbrev pub numbered_by : List (List ℕ) → List ℕ → Option ℕ → List (List ℕ) × Option ℕ
numbered_by names w (Some k) = (names, Some k)
numbered_by names w None = cond (nat_lt (length names) 128) (names ++ (w ∷ []), Some (length names)) (names, None)

abbrev pub numbered : List (List ℕ) → List ℕ → List (List ℕ) × Option ℕ
numbered names w = numbered_by names w (place names w)

abbrev pub message_in : Draft → List ℕ → Draft × Option ℕ
message_in d w = let n = numbered d.messages w in (record d { messages = n.0 }, n.1)

abbrev pub action_in : Draft → List ℕ → Draft × Option ℕ
action_in d w = let n = numbered d.actions w in (record d { actions = n.0 }, n.1)

-- the document of a draft, with the words ws, its title, the graph's name and start list, and the labels
abbrev pub document_of : Draft → List (List ℕ) → List ℕ → List ℕ → List ℕ → List Label → Doc
document_of d ws title graph start labels = record {
  words = ws;
  title = title;
  instances = d.instances;
  messages = d.messages;
  actions = d.actions;
  charts = d.charts;
  graph = graph;
  start = start;
  labels = labels;
}
