-- Lists of calls that any session has. A crate above may cite these.
use Rattle.std.proofs.Common.{◌≡◌, ℕ, zero, suc, true, List, ◌++◌, replicate, refl}
use Rattle.std.specs.List.{list_all}
use Rattle.std.proofs.lemmas.List.Folds.{list_all-append}
use Rattle.script_lines.specs.declared.line.Action.{Action}
use Rattle.script_lines.specs.declared.line.ScriptCall.{ScriptCall}
use Rattle.script_lines.specs.declared.line.ScriptCall.TheVariants.{Act}
use Rattle.script_lines.specs.Grammar.{is_act}

pub all_acts : (n : ℕ) (action : Action) → list_all is_act (replicate n (Act action)) ≡ true
all_acts zero action = refl
all_acts (suc n) action = all_acts n action

pub joined_acts : (xs ys : List ScriptCall) → list_all is_act xs ≡ true → list_all is_act ys ≡ true → list_all is_act (xs ++ ys) ≡ true
joined_acts xs ys a b = rw (list_all-append is_act xs ys, a, b)
