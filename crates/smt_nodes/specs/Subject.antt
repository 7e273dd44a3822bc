-- What nodes stand for.
use Rattle.law_terms.specs.Nodes.{Meaning, FunctionMeaning, TermMeaning, TypeMeaning}
use Rattle.smt_term.specs.View.{plain_function, plain_term, plain_type}
use Rattle.smt_nodes.specs.declared.subject.Subject.{Subject}
use Rattle.smt_nodes.specs.declared.subject.Subject.TheVariants.{Term, «Type», Function}

-- what a type, a function or a term of the program is as a meaning of nodes
abbrev pub meaning_of : Subject → Meaning
meaning_of (Term term) = TermMeaning (plain_term term.now)
meaning_of («Type» ty) = TypeMeaning (plain_type ty.now)
meaning_of (Function function) = FunctionMeaning (plain_function function.now)
