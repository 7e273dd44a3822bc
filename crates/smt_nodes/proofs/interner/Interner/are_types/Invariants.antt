use Rattle.std.proofs.Common.{◌≡◌, drop}
use Rattle.std.specs.List.{list_all}
use Rattle.law_terms.specs.Meanings.{meaning_at}
use Rattle.smt_nodes.specs.Interned.{nodes_of}
use Rattle.smt_nodes.specs.Kinds.{is_type_at}
use Rattle.smt_nodes.specs.View.{places_of}
use Rattle.smt_nodes.proofs.interner.Interner.are_types.Given as goal

-- whether what is left are types decides it of all
abbrev pub invariant-loop-id : goal.invariant-loop-id
invariant-loop-id l =
    list_all (λ place. is_type_at (meaning_at (nodes_of l.self) place)) (places_of (drop l.id-index l.ids)) ≡ list_all (λ place. is_type_at (meaning_at (nodes_of l.self) place)) (places_of l.ids)
