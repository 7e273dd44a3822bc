use Rattle.std.proofs.Common.{◌<◌, ◌∙◌, [], List, Option, ap, arith, map, refl, subst, sym}
use Rattle.std.specs.List.{AllByRecursion}
use Rattle.law_blasting.specs.Blasted.{Variables}
use Rattle.law_blasting.specs.Laws.{root}
use Rattle.law_blasting.specs.Numbering.{variables_of}
use Rattle.law_blasting.specs.Passing.{Related}
use Rattle.law_blasting.specs.Refusals.{first_refusal}
use Rattle.law_blasting.specs.Theorem.{new_roots, AreFaithful}
use Rattle.law_blasting.proofs.Faithful.{blast_is_faithful}
use Rattle.law_terms.specs.Plain.{terms}
use Rattle.smt_nodes.specs.Interned.{StandFor}
use Rattle.smt_nodes.specs.View.{ids_of, places_of}
use Rattle.smt_nodes.specs.declared.id.NodeId.{NodeId}
use Rattle.smt_blast.specs.Marks.{HasSeen, IsMarked, IsVariable}
use Rattle.smt_blast.specs.View.{numbered_from}
use Rattle.smt_blast.specs.Walks.{Refuses}
use Rattle.smt_blast.specs.declared.marks.Seen.{Seen}
use Rattle.smt_blast.proofs.Gating.{is_empty, is_not_empty}
use Rattle.smt_blast.proofs.Listing.{all_typed, all_within, answers_refusal, blastable, no_terms_stand, numbered_by, some_node, terms_found, walked_from_none}
use Rattle.smt_blast.proofs.blasting.blast.Goals as goal

pub returns-then-is_empty-clause-roots : goal.returns-then-is_empty-clause-roots
returns-then-is_empty-clause-roots c ts e b =
    let none = no_terms_stand c.args.old.now c.args.roots.now ts (is_empty c.args.roots.now (sym c.is_empty.ensures ∙ c.if-is_empty.true)) e in
    subst (λ us. StandFor c.new.result (ids_of c.in_ok-new.field-0) (new_roots us)) (sym none) (subst (λ (l : List NodeId). StandFor c.new.result l []) (sym c.in_ok-new.ensures) refl)

pub returns-then-is_empty-clause-vars : goal.returns-then-is_empty-clause-vars
returns-then-is_empty-clause-vars c ts e b =
    let none = no_terms_stand c.args.old.now c.args.roots.now ts (is_empty c.args.roots.now (sym c.is_empty.ensures ∙ c.if-is_empty.true)) e in
    c.new-then-is_empty-2.ensures ∙ ap (λ us. numbered_from 0 (variables_of us)) (sym none)

pub returns-then-is_empty-clause-faithful : goal.returns-then-is_empty-clause-faithful
returns-then-is_empty-clause-faithful c enums ts e b =
    let none = no_terms_stand c.args.old.now c.args.roots.now ts (is_empty c.args.roots.now (sym c.is_empty.ensures ∙ c.if-is_empty.true)) e in
    subst (AreFaithful enums) (sym none) (blast_is_faithful enums [] (record { typed = tt; formed = tt; taken = refl }))

pub returns-then-is_empty-clause-refused : goal.returns-then-is_empty-clause-refused
returns-then-is_empty-clause-refused c ts e b = ap first_refusal (no_terms_stand c.args.old.now c.args.roots.now ts (is_empty c.args.roots.now (sym c.is_empty.ensures ∙ c.if-is_empty.true)) e)

pub visit_all-requires : goal.visit_all-requires
visit_all-requires c =
    let (ts, e, b) = c.requires in
    subst (λ n. AllByRecursion (λ p. p < n) (places_of c.args.roots.now)) (sym c.len.ensures) (all_within c.args.old.now c.args.roots.now ts e)

pub returns-in_err-visit_all-clause-refused : goal.returns-in_err-visit_all-clause-refused
returns-in_err-visit_all-clause-refused c ts e b =
    let error = c.in_err-visit_all.field-0.0 in
    let refused = c.in_err-visit_all.ensures (terms ts) [] (terms_found c.args.old.now c.args.roots.now ts e) (all_typed ts b) c.in_ok-walk.ensures in
    answers_refusal (first_refusal ts) (variables_of ts) c.from_residual-in_err-visit_all.result error c.from_residual-in_err-visit_all.ensures.1 (subst (λ r. Refuses r error) (walked_from_none ts) refused)

pub returns-clause-roots : goal.returns-clause-roots
returns-clause-roots c ts e b =
    let old = c.args.old.now in
    let ids = c.args.roots.now in
    let (ws, w, walk, kept, marks) = c.in_ok-visit_all.ensures (terms ts) [] (terms_found old ids ts e) (all_typed ts b) c.in_ok-walk.ensures in
    let (none, same) = numbered_by (first_refusal ts) (variables_of ts) ws (sym (walked_from_none ts) ∙ w) in
    let seen = subst (λ (l : List (Option Seen)). HasSeen old l c.visit_all.new.self.variables.items ws) (sym c.as_slice-2.ensures.value) walk in
    let marked = subst (λ (l : List (Option Seen)). AllByRecursion (IsMarked l) ids) (sym c.as_slice-2.ensures.value) marks in
    subst (λ (vs : Variables). StandFor c.in_ok-nodes.nodes (ids_of c.in_ok-nodes.roots) (map (root vs) ts)) (sym same) (c.in_ok-nodes.ensures.roots c.visit_all.new.self.variables.items ws ts seen e marked)

pub returns-clause-vars : goal.returns-clause-vars
returns-clause-vars c ts e b =
    let old = c.args.old.now in
    let ids = c.args.roots.now in
    let (ws, w, walk, kept, marks) = c.in_ok-visit_all.ensures (terms ts) [] (terms_found old ids ts e) (all_typed ts b) c.in_ok-walk.ensures in
    let (none, same) = numbered_by (first_refusal ts) (variables_of ts) ws (sym (walked_from_none ts) ∙ w) in
    c.in_ok-vars.ensures ws (subst (λ (l : List NodeId). Related (IsVariable old) l ws) (sym c.as_slice.ensures.value) walk.variables) ∙ ap (numbered_from 0) (sym same)

pub returns-clause-faithful : goal.returns-clause-faithful
returns-clause-faithful c enums ts e b =
    let old = c.args.old.now in
    let ids = c.args.roots.now in
    let (ws, w, walk, kept, marks) = c.in_ok-visit_all.ensures (terms ts) [] (terms_found old ids ts e) (all_typed ts b) c.in_ok-walk.ensures in
    let (none, same) = numbered_by (first_refusal ts) (variables_of ts) ws (sym (walked_from_none ts) ∙ w) in
    blast_is_faithful enums ts (blastable old ids ts e b none)

pub returns-clause-few : goal.returns-clause-few
returns-clause-few c =
    let (ts, e, b) = c.requires in
    let old = c.args.old.now in
    let ids = c.args.roots.now in
    let (ws, w, walk, kept, marks) = c.in_ok-visit_all.ensures (terms ts) [] (terms_found old ids ts e) (all_typed ts b) c.in_ok-walk.ensures in
    let (none, same) = numbered_by (first_refusal ts) (variables_of ts) ws (sym (walked_from_none ts) ∙ w) in
    let seen = subst (λ (l : List (Option Seen)). HasSeen old l c.visit_all.new.self.variables.items ws) (sym c.as_slice-2.ensures.value) walk in
    let few = c.in_ok-nodes.ensures.few c.visit_all.new.self.variables.items ws seen in
    let count = seen.places in
    let some = some_node old ids ts (is_not_empty ids (sym c.is_empty.ensures ∙ c.if-is_empty.false)) e in
    omega (arith, few, count, some)

pub returns-clause-refused : goal.returns-clause-refused
returns-clause-refused c ts e b =
    let old = c.args.old.now in
    let ids = c.args.roots.now in
    let (ws, w, walk, kept, marks) = c.in_ok-visit_all.ensures (terms ts) [] (terms_found old ids ts e) (all_typed ts b) c.in_ok-walk.ensures in
    let (none, same) = numbered_by (first_refusal ts) (variables_of ts) ws (sym (walked_from_none ts) ∙ w) in
    none
