use Rattle.std.proofs.Common.{Ok, ap, ◌∙◌}
use Rattle.reading.proofs.Exits.{refused, too_long, at_title, at_draft, at_graph, at_list, at_start, at_labels, at_end}
use Rattle.reading.proofs.read.tables.Goals as goal

pub returns-then-text-gt-MOST : goal.returns-then-text-gt-MOST
returns-then-text-gt-MOST c = too_long c.args.words.now c.args.text.now c.if-text-gt-MOST.true

pub returns-in_err-title : goal.returns-in_err-title
returns-in_err-title c =
    refused _ _ _ _ c.from_residual.ensures.1
    (at_title c.args.words.now c.args.text.now _ c.if-text-gt-MOST.false c.new-reader.ensures _ c.in_err-title.ensures.says)

pub returns-in_err-draft : goal.returns-in_err-draft
returns-in_err-draft c =
    refused _ _ _ _ c.from_residual-in_err-draft.ensures.1
    (at_draft c.args.words.now c.args.text.now _ c.if-text-gt-MOST.false c.new-reader.ensures _ _ c.in_ok-title.ensures _ c.in_err-draft.ensures.says)

pub returns-in_err-graph : goal.returns-in_err-graph
returns-in_err-graph c =
    refused _ _ _ _ c.from_residual-in_err-graph.ensures.1
    (at_graph c.args.words.now c.args.text.now _ c.if-text-gt-MOST.false c.new-reader.ensures _ _ c.in_ok-title.ensures _ _ c.in_ok-draft.ensures _ c.in_err-graph.ensures.says)

pub returns-in_err-list : goal.returns-in_err-list
returns-in_err-list c =
    refused _ _ _ _ c.from_residual-in_err-list.ensures.1
    (at_list c.args.words.now c.args.text.now _ c.if-text-gt-MOST.false c.new-reader.ensures _ _ c.in_ok-title.ensures _ _ c.in_ok-draft.ensures _ _ _ _ _ c.in_ok-graph.ensures.says c.in_ok-graph.ensures.words _ c.charts-rows.ensures.names _ c.in_err-list.ensures.says)

pub returns-in_err-start : goal.returns-in_err-start
returns-in_err-start c =
    refused _ _ _ _ c.from_residual-in_err-start.ensures.1
    (at_start c.args.words.now c.args.text.now _ c.if-text-gt-MOST.false c.new-reader.ensures _ _ c.in_ok-title.ensures _ _ c.in_ok-draft.ensures _ _ _ _ _ c.in_ok-graph.ensures.says c.in_ok-graph.ensures.words _ c.charts-rows.ensures.names _ _ _ _ c.in_ok-list.ensures.says _ c.in_err-start.ensures)

pub returns-in_err-labels : goal.returns-in_err-labels
returns-in_err-labels c =
    refused _ _ _ _ c.from_residual-in_err-labels.ensures.1
    (at_labels c.args.words.now c.args.text.now _ c.if-text-gt-MOST.false c.new-reader.ensures _ _ c.in_ok-title.ensures _ _ c.in_ok-draft.ensures _ _ _ _ _ c.in_ok-graph.ensures.says c.in_ok-graph.ensures.words _ c.charts-rows.ensures.names _ _ _ _ c.in_ok-list.ensures.says _ c.in_ok-start.ensures _ c.in_err-labels.ensures)

pub returns : goal.returns
returns c =
    ap Ok c.into_tables.ensures
    ∙ at_end c.args.words.now c.args.text.now _ c.if-text-gt-MOST.false c.new-reader.ensures _ _ c.in_ok-title.ensures _ _ c.in_ok-draft.ensures _ _ _ _ _ c.in_ok-graph.ensures.says c.in_ok-graph.ensures.words _ c.charts-rows.ensures.names _ _ _ _ c.in_ok-list.ensures.says _ c.in_ok-start.ensures _ c.in_ok-labels.ensures
