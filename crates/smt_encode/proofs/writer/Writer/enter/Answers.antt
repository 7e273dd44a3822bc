use Rattle.std.proofs.Common.{ℕ, List, ap, refl, subst, sym, ◌∙◌}
use Rattle.std.specs.Io.KnownBytes.{append_known}
use Rattle.smt_spelling.specs.NodeEntries.{enter_by, entry_name}
use Rattle.smt_spelling.specs.Spelled.{IsSpelled}
use Rattle.law_terms.specs.Nodes.{TermMeaning}
use Rattle.smt_nodes.specs.Interned.{meaning_in}
use Rattle.smt_spelling.specs.Names.{nodes_under, KeepTables}
use Rattle.smt_spelling.specs.NodeLines.{with_name}
use Rattle.smt_spelling.specs.declared.names.Names.{Names}
use Rattle.smt_spelling.proofs.Entered.{entry_spelled}
use Rattle.smt_spelling.proofs.Named.{names_alone}
use Rattle.smt_encode.proofs.Stopping.{all_of_it, own_part, own_stops, part_along}
use Rattle.smt_encode.proofs.writer.Writer.enter.Goals as goal

pub returns-clause-lines : goal.returns-clause-lines
returns-clause-lines g c t s e p meant entry has spells says =
    let same = c.in_ok-name.ensures.alone.names in
    let put = c.in_ok-name.ensures.lines s p (names_alone c.args.self.now.names s has) says in
    let got = put.got ∙ ap (append_known (g.S.Sink.contents c.args.self.now.script)) (entry_spelled p c.args.entry.now (entry_name p s) (entry_name p s) c.args.sort.now e says refl spells) in
    let keeps = subst (λ (n : Names). KeepTables n s) (sym same) has in
    let there = ap (λ n. meaning_in (nodes_under n) c.args.id) same ∙ meant in
    let names = subst (λ (n : List ℕ). KeepTables c.enter_term.new.self (with_name s (TermMeaning t) n)) (c.in_ok-clone.ensures.cases ∙ put.named) (c.enter_term.ensures.tables s t keeps there entry) in
    (record { names = names; contents_are = got }, put.named)

pub returns-in_err-name-clause-lines : goal.returns-in_err-name-clause-lines
returns-in_err-name-clause-lines g c t s e p meant entry has spells says =
    own_stops (enter_by p t e s) IsSpelled _ c.from_residual.result c.from_residual.ensures.1
    (own_part c.args.self.now c.put_entry.new.self _ s
    (part_along _ _ _ _ (entry_spelled p c.args.entry.now (entry_name p s) (entry_name p s) c.args.sort.now e says refl spells) (c.in_err-name.ensures.part s p (names_alone c.args.self.now.names s has) says))
    (subst (λ (n : Names). KeepTables n s) (sym c.in_err-name.ensures.alone.names) has))

pub returns-in_err-clone-clause-lines : goal.returns-in_err-clone-clause-lines
returns-in_err-clone-clause-lines g c t s e p meant entry has spells says =
    let put = c.in_ok-name.ensures.lines s p (names_alone c.args.self.now.names s has) says in
    own_stops (enter_by p t e s) IsSpelled _ c.from_residual-in_err-clone.result c.from_residual-in_err-clone.ensures.1
    (own_part c.args.self.now c.put_entry.new.self _ s
    (all_of_it _ _ _ (put.got ∙ ap (append_known (g.S.Sink.contents c.args.self.now.script)) (entry_spelled p c.args.entry.now (entry_name p s) (entry_name p s) c.args.sort.now e says refl spells)))
    (subst (λ (n : Names). KeepTables n s) (sym c.in_ok-name.ensures.alone.names) has))
