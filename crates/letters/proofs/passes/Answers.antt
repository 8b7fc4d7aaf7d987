use Rattle.letters.proofs.Passing.{put_taken}
use Rattle.letters.proofs.passes.Goals as goal

pub returns-in_err-put : goal.returns-in_err-put
returns-in_err-put g c = λ s pair none.
    let w = g.C.Channel in
    let d = c.args.channel.now in
    absurd
    (put_taken (w.waiting d) (w.room d) c.args.from c.args.to _ pair none (g.met.C.Channel.least d s) (c.in_err-put.ensures s).answer)
