-- The worked example.
use Rattle.std.proofs.Common.{◌≡◌, ℕ, ◌≤◌, Bool, true, false, List, [], ◌∷◌, ◌++◌, length, drop, refl, sym, ap, ◌∙◌, subst, Option, Some, None, rules, arith, inl, inr}
use Rattle.std.proofs.lemmas.Bool.{false≢true}
use Rattle.std.specs.Char.{encode_utf8}
use Rattle.std.specs.Prelude.{codes}
use Rattle.std.specs.Str.{is_utf8, chars}
use Rattle.law_terms.specs.Plain.{BoolType, NotOp, PlainLiteral, PlainTerm, LiteralTerm}
use Rattle.law_terms.specs.Reached.{reached_terms}
use Rattle.law_texts.specs.Lexicon.{Piece, Space, Open, Close, Name, Symbol}
use Rattle.law_texts.specs.Reading.{Expression, Expressions, Leaf, Node, Cons}
use Rattle.law_scripts.specs.CommandLines.{AreSorted, SortedScript}
use Rattle.law_scripts.specs.Script.{Command, Constant, DeclareConst, DefineFun, Defined, Entry, Holds, State, group, name, start}
use Rattle.law_scripts.specs.Sorts.{bool_sort, same_sort, string_sort}
use Rattle.law_scripts.proofs.Commands.{one_list_of_commands}
use Rattle.law_lines.specs.Command.{commands}
use Rattle.law_lines.specs.Entries.{text_or_nothing}
use Rattle.law_lines.specs.Line as line
use Rattle.law_lines.specs.Line.{Line, Comment, spelled_lines}
use Rattle.law_lines.specs.Lines.{EncodeCall, fresh, lines_of_calls, option_line}
use Rattle.law_lines.specs.NameTables.{Tables}
use Rattle.law_lines.specs.Rows.{bool_variable, not_b, unary}
use Rattle.law_lines.specs.TermTexts.{text_of}
use Rattle.law_lines.specs.Text.{names, text}
use Rattle.law_lines.proofs.Levels.{HoldsWhole}
use Rattle.law_lines.proofs.Spelled.{lines_hold, one_holds}
use Rattle.law_lines.proofs.Whole.{first_is_line}
use Rattle.law_theorem.specs.Open.{IsAmong}
use Rattle.law_theorem.specs.Conditions.{AreConditions}
use Rattle.law_theorem.specs.SortedExample.{DoubleNegationIsWellWritten, doubly_negated, small_script}
use Rattle.law_theorem.specs.FlatScripts.{IsDefinitionOf, IsFlatState, IsFlatText}
use Rattle.law_theorem.specs.WellWritten.{IsWellWritten}
use Rattle.law_theorem.proofs.Calls.{texts_are_well_written}

condition : AreConditions [] (doubly_negated ∷ [])
unfolding chars
condition = record {
  are_typed = (record { parts = refl; type = refl }, tt);
  are_formed = (record { literals = search rules; types = search rules }, tt);
  have_no_fault = refl;
}

-- ---- small scripts

abbrev negated : Expression → Expression
negated e = group (name (codes "not") ∷ e ∷ [])

abbrev t0 : Expression
t0 = name (codes "t0")

abbrev small_commands : (sort body : Expression) → List Command
small_commands sort body = DeclareConst (codes "t0") bool_sort ∷ DefineFun (codes "t1") sort body ∷ []

abbrev small_state : (sort body : Expression) → State
small_state sort body = record { last = record { sorts = []; names = (codes "t1", Defined sort body) ∷ (codes "t0", Constant bool_sort) ∷ []; assertions = [] }; below = []; ended = false }

-- the pieces of a small script, around those of the body
abbrev small_pieces : (sort : List ℕ) → List Piece → List Piece
small_pieces sort body =
    Open ∷ Symbol (codes "declare-const") ∷ Space 32 ∷ Symbol (codes "t0") ∷ Space 32 ∷ Symbol (codes "Bool") ∷ Close ∷ Space 10
    ∷ Open ∷ Symbol (codes "define-fun") ∷ Space 32 ∷ Symbol (codes "t1") ∷ Space 32 ∷ Open ∷ Close ∷ Space 32 ∷ Symbol sort ∷ Space 32 ∷ (body ++ Close ∷ Space 10 ∷ [])

abbrev flat_pieces : List Piece
flat_pieces = Open ∷ Symbol (codes "not") ∷ Space 32 ∷ Symbol (codes "t0") ∷ Close ∷ []

abbrev nested_pieces : List Piece
nested_pieces = Open ∷ Symbol (codes "not") ∷ Space 32 ∷ (flat_pieces ++ Close ∷ [])

flat_holds : Holds (small_script (codes "Bool") (codes "(not t0)")) (small_commands bool_sort (negated t0))
unfolding is_utf8 chars encode_utf8
flat_holds = record { reads = record { pieces = small_pieces (codes "Bool") flat_pieces; cut = record { spelled = refl; longest = refl }; tokens_are = refl }; plain = refl }

texts_hold : Holds (small_script (codes "String") (codes "(not t0)")) (small_commands string_sort (negated t0))
unfolding is_utf8 chars encode_utf8
texts_hold = record { reads = record { pieces = small_pieces (codes "String") flat_pieces; cut = record { spelled = refl; longest = refl }; tokens_are = refl }; plain = refl }

nested_holds : Holds (small_script (codes "Bool") (codes "(not (not t0))")) (small_commands bool_sort (negated (negated t0)))
unfolding is_utf8 chars encode_utf8
nested_holds = record { reads = record { pieces = small_pieces (codes "Bool") nested_pieces; cut = record { spelled = refl; longest = refl }; tokens_are = refl }; plain = refl }

truth_is_text : Some bool_sort ≡ Some string_sort → ⊥
truth_is_text e = false≢true (ap (λ (o : Option Expression). elim o [ Some sort ↦ same_sort sort string_sort | None ↦ false ]) e)

ill_sorted : (s : State) → SortedScript (small_script (codes "String") (codes "(not t0)")) s → ⊥
ill_sorted s h =
    truth_is_text (subst (λ (cs : List Command). AreSorted cs start) (one_list_of_commands (small_script (codes "String") (codes "(not t0)")) h.script.commands (small_commands string_sort (negated t0)) h.script.holds texts_hold) h.sorted).1.0

-- ---- a body that is not flat

-- whether an expression is an atom
is_atom : Expression → Bool
is_atom (Leaf a) = true
is_atom (Node es) = false

second : Expressions → Expression
second (Cons e (Cons f es)) = f
second es = Leaf (Name [])

operand : Expression → Expression
operand (Node es) = second es
operand (Leaf a) = Leaf a

body_of : List Line → Expression
body_of (line.DefineFun n sort body ∷ ls) = body
body_of ls = Leaf (Name [])

-- What is no literal stands by a name, which is an atom.
is_named : (s : Tables) (u : PlainTerm) (e : Expression) → ((p : PlainLiteral) → u ≡ LiteralTerm p → ⊥) → IsFlatText s u e → is_atom e ≡ true
unfolding is_atom
is_named s u e no_literal (inl (n, named, is)) = ap is_atom is
is_named s u e no_literal (inr (p, literal, inline)) = absurd (no_literal p literal)

abbrev nested_state : State
nested_state = small_state bool_sort (negated (negated t0))

abbrev IsDefined : Tables → PlainTerm → Type 0
IsDefined s t = IsDefinitionOf [] (reached_terms (doubly_negated ∷ [])) s nested_state t (codes "t1")

-- The body is that of the nested definition, in which no atom stands behind `not`.
entry_body : Option Entry → Expression
entry_body (Some (Defined sort body)) = body
entry_body e = Leaf (Name [])

not_negated : (s : Tables) (u : PlainTerm) → ((p : PlainLiteral) → u ≡ LiteralTerm p → ⊥) → IsDefined s (unary NotOp u BoolType) → ⊥
unfolding is_atom operand second body_of entry_body
not_negated s u no_literal d =
    let stated : is_atom (operand d.body) ≡ true = ap (λ (ls : List Line). is_atom (operand (body_of ls))) (sym d.line) ∙ is_named s u (text_or_nothing (text_of s u)) no_literal d.parts.0 in
    let live : is_atom (operand d.body) ≡ false = ap (λ (o : Option Entry). is_atom (operand (entry_body o))) (sym d.live) in
    false≢true (sym live ∙ stated)

is_comment : List Line → Bool
is_comment (Comment x ∷ ls) = true
is_comment ls = false

not_declared : (s : Tables) → IsDefined s (bool_variable (codes "b")) → ⊥
unfolding is_comment
not_declared s d = false≢true (sym (ap is_comment d.line))

not_flat : (s : Tables) → IsFlatState [] (doubly_negated ∷ []) s nested_state → ⊥
not_flat s f = let (t, d) = f.defines (codes "t1") bool_sort (negated (negated t0)) refl in of_term t d d.reached
  where
    of_term : (t : PlainTerm) → IsDefined s t → IsAmong t (reached_terms (doubly_negated ∷ [])) → ⊥
    of_term t d (inl e) = not_declared s (subst (IsDefined s) (sym e) d)
    of_term t d (inr (inl e)) = not_negated s (bool_variable (codes "b")) (λ p q. cc) (subst (IsDefined s) (sym e) d)
    of_term t d (inr (inr (inl e))) = not_negated s not_b (λ p q. cc) (subst (IsDefined s) (sym e) d)
    of_term t d (inr (inr (inr h))) = absurd h

-- ---- the number of commands

-- the commands of the text, behind that of `Option`
abbrev later : List Line
later = drop 1 (lines_of_calls [] (EncodeCall (doubly_negated ∷ []) ∷ []) fresh)

text_holds : HoldsWhole (option_line ∷ later)
text_holds = one_holds _ (spelled_lines later) _ (commands later) first_is_line (lines_hold later refl)

shorter : IsWellWritten [] (text [] (doubly_negated ∷ [])) (doubly_negated ∷ []) (names [] (doubly_negated ∷ [])) 4 → ⊥
shorter w =
    let same = one_list_of_commands (text [] (doubly_negated ∷ [])) w.sorted.script.commands (commands (option_line ∷ later)) w.sorted.script.holds text_holds.0 in
    five (length w.sorted.script.commands) (ap (λ (cs : List Command). length cs) same) w.short
  where
    five : (n : ℕ) → n ≡ 5 → n ≤ 4 → ⊥
    five n e l = omega arith

-- ---- the example

abbrev bytes : List ℕ
bytes = text [] (doubly_negated ∷ [])

abbrev tables : Tables
tables = names [] (doubly_negated ∷ [])

well : IsWellWritten [] bytes (doubly_negated ∷ []) tables 5
well = texts_are_well_written [] (doubly_negated ∷ []) tt condition

pub double_negation_is_well_written : DoubleNegationIsWellWritten
double_negation_is_well_written = record {
  condition = condition;
  bytes = refl;
  well_written = well;
  shorter = shorter;
  sorted = (_, record { script = record { commands = small_commands bool_sort (negated t0); holds = flat_holds; runs = refl }; sorted = (tt, (refl, tt)) });
  ill_sorted = (small_state string_sort (negated t0), (record { commands = small_commands string_sort (negated t0); holds = texts_hold; runs = refl }, ill_sorted));
  nested = (nested_state, record { script = record { commands = small_commands bool_sort (negated (negated t0)); holds = nested_holds; runs = refl }; sorted = (tt, (refl, tt)) }, not_flat);
}
