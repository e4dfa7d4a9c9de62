use Rattle.lot_tree.proofs.Digits.{digits_of}
use Rattle.lot_tree.proofs.partial_sums.binary_digits.Goals as goal

pub returns-clause-enough : goal.returns-clause-enough
returns-clause-enough c = (digits_of c.args.n c.ranges.n.fits).0

pub returns-clause-needed : goal.returns-clause-needed
returns-clause-needed c = (digits_of c.args.n c.ranges.n.fits).1
