use Rattle.std.proofs.Common.{◌≡◌, ℕ, List, drop, map}
use Rattle.smt_term.specs.Enums.{enums_of}
use Rattle.smt_term.specs.TextSets.{texts_of}
use Rattle.law_terms.specs.TypeValues.{members_of}
use Rattle.smt_symbolizer.proofs.Entered.{in_both}
use Rattle.smt_symbolizer.specs.Named.{said}
use Rattle.smt_symbolizer.proofs.schema_types.table_of_members.Given as goal

-- the members of each type in the table, or else in what is left, are those in all
abbrev pub invariant-loop-ety : goal.invariant-loop-ety
invariant-loop-ety l = (t : List ℕ) → in_both (enums_of l.table) (drop l.ety-index l.types) t ≡ members_of (map (said texts_of) l.types) t
