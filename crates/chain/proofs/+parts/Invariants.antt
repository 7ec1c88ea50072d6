use Rattle.chain.proofs.+parts.Given as goal

abbrev pub decreases-parts : goal.decreases-parts
decreases-parts l = l.n
