use Rattle.gop_board.proofs.FaultsApart.{apart, one-command}
use Rattle.gop_board.proofs.laws.faults_are_determined.Goals as goal

pub returns : goal.returns
returns g c = record {
  apart = λ enc tables maker job first pictures packets command coder tells gave met. apart enc tables _ pictures packets command coder tells gave met;
  one = λ enc tables maker job first pictures command other coder other_coder tells met too. one-command enc tables _ pictures command other coder other_coder tells met too;
}
