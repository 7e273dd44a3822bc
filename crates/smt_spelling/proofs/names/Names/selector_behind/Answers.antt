use Rattle.std.proofs.Common.{◌≡◌, List, IfOk, [], Option, ap, arith, sym, subst, ◌∙◌}
use Rattle.std.specs.Rc.{rc_str_bytes}
use Rattle.law_terms.specs.Meanings.{meanings}
use Rattle.law_lines.specs.Lines.{first_type}
use Rattle.law_lines.specs.Spelling.{spelled}
use Rattle.law_terms.specs.Faults.{Fault, record_get_fault}
use Rattle.law_terms.specs.Plain.{PlainTerm, terms}
use Rattle.law_terms.specs.Types.{type_of, types_of}
use Rattle.smt_nodes.specs.Interned.{nodes_of}
use Rattle.smt_spelling.specs.TextFaults.{Finds}
use Rattle.smt_spelling.specs.NodeEntries.{selector}
use Rattle.smt_spelling.specs.Names.{nodes_under}
use Rattle.smt_spelling.specs.SelectorFaults.{selector_fault}
use Rattle.smt_spelling.proofs.Selecting.{behind, first_alone, no_operand}
use Rattle.smt_spelling.proofs.names.Names.selector_behind.Goals as goal

pub returns-in_default-clause-fault : goal.returns-in_default-clause-fault
returns-in_default-clause-fault g c type ts found f named =
    let (past, unit, none, few, rest) = c.in_default.ensures.lookup in
    let no : ts ≡ [] = no_operand (meanings (nodes_of (nodes_under c.args.self.now))) c.args.parts.now type ts found few in
    ap (λ l. record_get_fault (rc_str_bytes c.args.attribute.now) (types_of (terms l))) no ∙ named

pub unreachable-requires : goal.unreachable-requires
unreachable-requires g c =
    let (type, ts, found) = c.requires.meant in
    let (within, at, none, some, rest) = c.in-Some.ensures.lookup in
    let b = behind (nodes_under c.args.self.now) c.nodes.result.now c.args.parts.now c.in-Some.operand.now c.parts.result.now type ts c.nodes.ensures found some.0 at c.parts.ensures.found in
    omega (arith, b.some, c.in-empty.len_below)

pub selector_at-requires : goal.selector_at-requires
selector_at-requires g c =
    let (type, ts, found) = c.requires.meant in
    let (within, at, none, some, rest) = c.in-Some.ensures.lookup in
    let b = behind (nodes_under c.args.self.now) c.nodes.result.now c.args.parts.now c.in-Some.operand.now c.parts.result.now type ts c.nodes.ensures found some.0 at c.parts.ensures.found in
    (type_of b.first, b.type _)

pub returns-clause-text : goal.returns-clause-text
returns-clause-text g c type ts s found are =
    let (within, at, none, some, rest) = c.in-Some.ensures.lookup in
    let b = behind (nodes_under c.args.self.now) c.nodes.result.now c.args.parts.now c.in-Some.operand.now c.parts.result.now type ts c.nodes.ensures found some.0 at c.parts.ensures.found in
    subst (λ (l : List PlainTerm). IfOk c.selector_at.result (λ text. rc_str_bytes text ≡ spelled (selector (rc_str_bytes c.args.attribute.now) (first_type (terms l)) s))) (sym b.whole) (c.selector_at.ensures.text (type_of b.first) s (b.type _) are)

pub returns-clause-fault : goal.returns-clause-fault
returns-clause-fault g c type ts found =
    let (within, at, none, some, rest) = c.in-Some.ensures.lookup in
    let b = behind (nodes_under c.args.self.now) c.nodes.result.now c.args.parts.now c.in-Some.operand.now c.parts.result.now type ts c.nodes.ensures found some.0 at c.parts.ensures.found in
    let a = rc_str_bytes c.args.attribute.now in
    subst (λ (f : Option Fault). Finds selector_fault f c.selector_at.result) (sym (ap (λ l. record_get_fault a (types_of (terms l))) b.whole ∙ first_alone a (type_of b.first) (types_of (terms b.others)))) (c.selector_at.ensures.fault (type_of b.first) (b.type _))
