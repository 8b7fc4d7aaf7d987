-- How a draft is held in tables.
use Rattle.std.specs.Prelude.{◌≡◌, ◌≤◌, true, length, drop}
use Rattle.msc.specs.Stored.{cut, charts_from}
use Rattle.forms.specs.Drafts as drafts
use Rattle.draft.specs.Tiles.{tiles, rows}
use Rattle.draft.specs.declared.draft.Draft.TheInside.{Inside}

abbrev pub draft_of : Inside → drafts.Draft
draft_of d = record {
  instances = d.instances;
  messages = d.messages;
  actions = d.actions;
  charts = charts_from d.events 0 d.charts;
  parts = cut d.events d.first d.ends;
  part = drop d.«open» d.events;
}

pub record Laid (d : Inside) : Type 0 where
  pub within : d.«open» ≤ length d.events
  pub charted : rows 0 d.charts d.first ≡ true
  pub tiled : tiles d.first d.ends d.«open» ≡ true
