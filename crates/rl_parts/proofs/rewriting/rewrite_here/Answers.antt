-- No fewer are left than there are, so none is covered.
use Rattle.std.proofs.Common.{not, length, ap, arith}
use Rattle.rl_parts.proofs.Leaving.{filter_all}
use Rattle.rl_parts.proofs.rewriting.rewrite_here.Goals as goal

pub returns-then-len-entries : goal.returns-then-len-entries
returns-then-len-entries g c =
    let left = c.in_ok-left.left in
    filter_all (λ entry. not (g.C.Covers.covers c.args.covered.now entry)) c.args.entries.now (omega (arith, ap length c.in_ok-left.ensures, left.ok.0, c.len.ensures, c.if-len-entries.true))
