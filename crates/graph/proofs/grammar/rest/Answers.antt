use Rattle.std.proofs.Common.{refl, ◌∙◌}
use Rattle.std.proofs.lemmas.Result.{err_from_is_err_and}
use Rattle.graph.proofs.grammar.rest.Goals as goal

pub returns-in_err-keyword : goal.returns-in_err-keyword
returns-in_err-keyword c =
    let p = err_from_is_err_and c.from_residual-in_err-keyword.result c.from_residual-in_err-keyword.ensures.1 in
    let token = c.in_ok-token.ensures.reads in
    let chart = c.in_ok-chart.ensures in
    let close = c.in_ok-sign.ensures.reads in
    let seq = c.in_err-keyword.ensures.reads in
    rw (p.1, p.2) (record {
      says = rw (← token.says, ← c.is_word.ensures, c.if-is_word.false, ← c.is_sign.ensures, c.if-is_sign.true, ← token.words, ← chart.says, ← chart.words, ← close.says, ← close.words, ← seq.says) refl;
      words = seq.words ∙ close.words ∙ chart.words ∙ token.words;
      text = seq.text ∙ close.text ∙ chart.text ∙ token.text;
    })

pub returns-in_err-sign-2 : goal.returns-in_err-sign-2
returns-in_err-sign-2 c =
    let p = err_from_is_err_and c.from_residual-in_err-sign-2.result c.from_residual-in_err-sign-2.ensures.1 in
    let token = c.in_ok-token.ensures.reads in
    let chart = c.in_ok-chart.ensures in
    let close = c.in_ok-sign.ensures.reads in
    let seq = c.in_ok-keyword.ensures.reads in
    let opens = c.in_err-sign-2.ensures.reads in
    rw (p.1, p.2) (record {
      says = rw (← token.says, ← c.is_word.ensures, c.if-is_word.false, ← c.is_sign.ensures, c.if-is_sign.true, ← token.words, ← chart.says, ← chart.words, ← close.says, ← close.words, ← seq.says, ← seq.words, ← opens.says) refl;
      words = opens.words ∙ seq.words ∙ close.words ∙ chart.words ∙ token.words;
      text = opens.text ∙ seq.text ∙ close.text ∙ chart.text ∙ token.text;
    })

pub returns-in_err-next : goal.returns-in_err-next
returns-in_err-next c =
    let p = err_from_is_err_and c.from_residual-in_err-next.result c.from_residual-in_err-next.ensures.1 in
    let token = c.in_ok-token.ensures.reads in
    let chart = c.in_ok-chart.ensures in
    let close = c.in_ok-sign.ensures.reads in
    let seq = c.in_ok-keyword.ensures.reads in
    let opens = c.in_ok-sign-2.ensures.reads in
    let list = c.in_err-next.ensures in
    rw (p.1, p.2) (record {
      says = rw (← token.says, ← c.is_word.ensures, c.if-is_word.false, ← c.is_sign.ensures, c.if-is_sign.true, ← token.words, ← chart.says, ← chart.words, ← close.says, ← close.words, ← seq.says, ← seq.words, ← opens.says, ← opens.words, ← list.says) refl;
      words = list.words ∙ opens.words ∙ seq.words ∙ close.words ∙ chart.words ∙ token.words;
      text = list.text ∙ opens.text ∙ seq.text ∙ close.text ∙ chart.text ∙ token.text;
    })
