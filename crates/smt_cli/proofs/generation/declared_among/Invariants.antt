use Rattle.std.proofs.Common.{◌≡◌, ◌≤◌, take}
use Rattle.std.specs.Prelude.{count_by}
use Rattle.law_lines.specs.NameTables.{Tables}
use Rattle.smt_job_terms.specs.DeclarationView.{plain_declaration}
use Rattle.smt_encode.specs.Encoded.{HasNames}
use Rattle.smt_cli.specs.Generation.{is_declared}
use Rattle.smt_cli.proofs.generation.declared_among.Given as goal

abbrev pub invariant-loop-variable : goal.invariant-loop-variable
invariant-loop-variable l = record {
  within : l.count ≤ l.variable-index;
  counted : (s : Tables) → HasNames l.encoder s → l.count ≡ count_by (λ v. is_declared s (plain_declaration v)) (take l.variable-index l.variable-items);
}
