use Rattle.std.proofs.Common.{◌≡◌, ◌<◌, length, sym, ◌∙◌, arith}
use Rattle.std.proofs.lemmas.Bool.{false≢true}
use Rattle.law_terms.specs.Meanings.{meanings}
use Rattle.law_terms.proofs.Places.{as_many, found_within}
use Rattle.smt_nodes.proofs.Finding.{none_before}
use Rattle.smt_nodes.specs.Interned.{nodes_of}
use Rattle.smt_nodes.specs.Subject.{meaning_of}
use Rattle.smt_nodes.specs.View.{place_of}
use Rattle.smt_nodes.proofs.interner.Interner.find_subject.Goals as goal

pub loop-place-init : goal.loop-place-init
loop-place-init c id h = absurd (omega arith)

pub loop-place-preserved : goal.loop-place-preserved
loop-place-preserved c id h e =
    none_before (nodes_of c.args.self.now) c.loop-place.place _ (λ f. false≢true (sym c.if-stands_for.false ∙ c.stands_for.ensures.1 f)) (λ i k f. c.loop-place.invariant (record { place = i }) k f) (place_of id) h e

pub returns-clause-none : goal.returns-clause-none
returns-clause-none c id h =
    let within : place_of id < length (meanings (nodes_of c.args.self.now)) = found_within (meanings (nodes_of c.args.self.now)) (place_of id) (meaning_of c.args.subject) h in
    let many : length (meanings (nodes_of c.args.self.now)) ≡ length (nodes_of c.args.self.now) = as_many (nodes_of c.args.self.now) in
    let len = c.len-place-end.ensures in
    let past = c.loop-place-test.false in
    c.loop-place.invariant id (omega arith) h
