use Rattle.metrics_window.proofs.MoveLaws.{count_left, sum_left, shown_left}
use Rattle.metrics_window.proofs.laws.whole_files_lose_what_was_coded.Goals as goal

pub returns : goal.returns
returns c = record {
  counts = λ k metrics t known len room. count_left k metrics t known len room;
  sums = λ k metrics t known len room. sum_left k metrics t known len room;
  shown = λ metrics t room. shown_left metrics t room;
}
