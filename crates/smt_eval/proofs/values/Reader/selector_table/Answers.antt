use Rattle.std.proofs.Common.{◌≡◌, Some, false, ap, ◌∙◌, sym}
use Rattle.std.specs.Map.{lookup}
use Rattle.std.specs.Prelude.{is_some}
use Rattle.law_assignments.specs.Assignments.{is_of_other_family}
use Rattle.law_assignments.specs.Entries.{selector_named, table_of}
use Rattle.law_assignments.specs.Outcomes.{UnknownEntry}
use Rattle.law_terms.specs.Interpretations.{selector_eq}
use Rattle.law_terms.specs.Plain.{ExtensionType, IpAddrKind}
use Rattle.law_terms.specs.Types.{extension_signature}
use Rattle.smt_term.specs.Functions.{plain_definition}
use Rattle.smt_term.specs.View.{plain_type, plain_type-Ext}
use Rattle.smt_term.specs.declared.extension.ExtType.TheVariants.{IpAddr}
use Rattle.smt_term.specs.declared.types.TermType.{Ext}
use Rattle.smt_term.specs.ExtensionView.{plain_extension_op}
use Rattle.smt_eval.specs.AssignmentView.{plain_assignment, plain_selector}
use Rattle.smt_eval.specs.WrittenView.{plain_written_table}
use Rattle.smt_eval.proofs.Entered.{found_so, stated_so, value_fault}
use Rattle.smt_eval.proofs.InputReading.{passes_on}
use Rattle.smt_eval.proofs.values.Reader.selector_table.Goals as goal

pub returns : goal.returns
returns c ds reads =
    let w = plain_written_table c.args.written.now in
    let given = (plain_assignment c.args.given.now).selectors in
    let o = plain_extension_op c.in-Some.op in
    let found : Some o ≡ selector_named w.name = c.in-Some.ensures ∙ ap selector_named c.as_str.ensures.value in
    let once : is_some (lookup (selector_eq o) given) ≡ false = found_so _ c.selector.result _ c.is_some.result c.selector.ensures c.is_some.ensures ∙ c.if-is_some.false in
    stated_so (UnknownEntry w.name) (selector_named w.name) (λ p. lookup (selector_eq p) given) w.name (λ p n. table_of ds (ExtensionType IpAddrKind) (extension_signature p).1 (is_of_other_family p) w) (λ p n d. (p, d)) o found once (plain_definition c.in_ok-table.field-0)
    (ap (λ t. table_of ds t (extension_signature o).1 (is_of_other_family o) w) (sym (plain_type-Ext IpAddr)) ∙ ap (λ t. table_of ds (plain_type (Ext IpAddr)) t (is_of_other_family o) w) (sym c.in_ok-out.ensures) ∙ c.in_ok-table.ensures ds reads)

pub returns-in_err-table : goal.returns-in_err-table
returns-in_err-table c ds reads =
    let w = plain_written_table c.args.written.now in
    let given = (plain_assignment c.args.given.now).selectors in
    let o = plain_extension_op c.in-Some.op in
    let found : Some o ≡ selector_named w.name = c.in-Some.ensures ∙ ap selector_named c.as_str.ensures.value in
    let once : is_some (lookup (selector_eq o) given) ≡ false = found_so _ c.selector.result _ c.is_some.result c.selector.ensures c.is_some.ensures ∙ c.if-is_some.false in
    passes_on plain_selector c.from_residual-in_err-table.result c.in_err-table.field-0.0 _ _ c.from_residual-in_err-table.ensures.1 (c.in_err-table.ensures ds reads) (λ f h.
    value_fault (UnknownEntry w.name) (selector_named w.name) (λ p. lookup (selector_eq p) given) w.name (λ p n. table_of ds (ExtensionType IpAddrKind) (extension_signature p).1 (is_of_other_family p) w) (λ p n d. (p, d)) o found once f
    (ap (λ t. table_of ds t (extension_signature o).1 (is_of_other_family o) w) (sym (plain_type-Ext IpAddr)) ∙ ap (λ t. table_of ds (plain_type (Ext IpAddr)) t (is_of_other_family o) w) (sym c.in_ok-out.ensures) ∙ h))
