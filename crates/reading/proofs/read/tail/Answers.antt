use Rattle.std.proofs.Common.{refl, ◌∙◌}
use Rattle.std.proofs.lemmas.Result.{err_from_is_err_and}
use Rattle.reading.specs.Pieces.{tail_at}
use Rattle.reading.proofs.read.tail.Goals as goal

pub returns-in_err-lines : goal.returns-in_err-lines
unfolding tail_at
returns-in_err-lines c =
    let p = err_from_is_err_and c.from_residual-in_err-lines.result c.from_residual-in_err-lines.ensures.1 in
    let list = c.in_ok-start.ensures in
    record {
      says = rw (p.1, p.2, ← list.says, ← list.words, ← c.in_err-lines.ensures.says) refl;
      words = c.in_err-lines.ensures.words ∙ list.words;
      text = c.in_err-lines.ensures.text ∙ list.text;
    }

pub returns-in_err-sign : goal.returns-in_err-sign
unfolding tail_at
returns-in_err-sign c =
    let p = err_from_is_err_and c.from_residual-in_err-sign.result c.from_residual-in_err-sign.ensures.1 in
    let list = c.in_ok-start.ensures in
    let lines = c.in_ok-lines.ensures in
    record {
      says = rw (p.1, p.2, ← list.says, ← list.words, ← lines.says, ← lines.words, ← c.in_err-sign.ensures.reads.says) refl;
      words = c.in_err-sign.ensures.reads.words ∙ lines.words ∙ list.words;
      text = c.in_err-sign.ensures.reads.text ∙ lines.text ∙ list.text;
    }

pub returns-in_err-keyword : goal.returns-in_err-keyword
unfolding tail_at
returns-in_err-keyword c =
    let p = err_from_is_err_and c.from_residual-in_err-keyword.result c.from_residual-in_err-keyword.ensures.1 in
    let list = c.in_ok-start.ensures in
    let lines = c.in_ok-lines.ensures in
    let semi = c.in_ok-sign.ensures.reads in
    record {
      says = rw (p.1, p.2, ← list.says, ← list.words, ← lines.says, ← lines.words, ← semi.says, ← semi.words, ← c.in_err-keyword.ensures.reads.says) refl;
      words = c.in_err-keyword.ensures.reads.words ∙ semi.words ∙ lines.words ∙ list.words;
      text = c.in_err-keyword.ensures.reads.text ∙ semi.text ∙ lines.text ∙ list.text;
    }

pub returns-in_err-sign-2 : goal.returns-in_err-sign-2
unfolding tail_at
returns-in_err-sign-2 c =
    let p = err_from_is_err_and c.from_residual-in_err-sign-2.result c.from_residual-in_err-sign-2.ensures.1 in
    let list = c.in_ok-start.ensures in
    let lines = c.in_ok-lines.ensures in
    let semi = c.in_ok-sign.ensures.reads in
    let word = c.in_ok-keyword.ensures.reads in
    record {
      says = rw (p.1, p.2, ← list.says, ← list.words, ← lines.says, ← lines.words, ← semi.says, ← semi.words, ← word.says, ← word.words, ← c.in_err-sign-2.ensures.reads.says) refl;
      words = c.in_err-sign-2.ensures.reads.words ∙ word.words ∙ semi.words ∙ lines.words ∙ list.words;
      text = c.in_err-sign-2.ensures.reads.text ∙ word.text ∙ semi.text ∙ lines.text ∙ list.text;
    }

pub returns-in_err-end : goal.returns-in_err-end
unfolding tail_at
returns-in_err-end c =
    let p = err_from_is_err_and c.from_residual-in_err-end.result c.from_residual-in_err-end.ensures.1 in
    let list = c.in_ok-start.ensures in
    let lines = c.in_ok-lines.ensures in
    let semi = c.in_ok-sign.ensures.reads in
    let word = c.in_ok-keyword.ensures.reads in
    let semi2 = c.in_ok-sign-2.ensures.reads in
    record {
      says = rw (p.1, p.2, ← list.says, ← list.words, ← lines.says, ← lines.words, ← semi.says, ← semi.words, ← word.says, ← word.words, ← semi2.says, ← semi2.words, ← c.in_err-end.ensures.reads.says) refl;
      words = c.in_err-end.ensures.reads.words ∙ semi2.words ∙ word.words ∙ semi.words ∙ lines.words ∙ list.words;
      text = c.in_err-end.ensures.reads.text ∙ semi2.text ∙ word.text ∙ semi.text ∙ lines.text ∙ list.text;
    }

pub returns : goal.returns
unfolding tail_at
returns c =
    let list = c.in_ok-start.ensures in
    let lines = c.in_ok-lines.ensures in
    let semi = c.in_ok-sign.ensures.reads in
    let word = c.in_ok-keyword.ensures.reads in
    let semi2 = c.in_ok-sign-2.ensures.reads in
    let end = c.in_ok-end.ensures.reads in
    record {
      says = rw (← list.says, ← list.words, ← lines.says, ← lines.words, ← semi.says, ← semi.words, ← word.says, ← word.words, ← semi2.says, ← semi2.words, ← end.says) refl;
      words = end.words ∙ semi2.words ∙ word.words ∙ semi.words ∙ lines.words ∙ list.words;
      text = end.text ∙ semi2.text ∙ word.text ∙ semi.text ∙ lines.text ∙ list.text;
    }
