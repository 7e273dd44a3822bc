-- A text that is a formula has no fault.
use Rattle.std.proofs.Common.{◌≡◌, ◌∙◌, ◌*◌, ◌<◌, ◌≤◌, ◌⊎◌, ℕ, suc, List, [], ◌∷◌, ◌++◌, Bool, true, false, Option, Some, None, Result, Ok, Err, ap, append-nil, append_assoc, arith, filter, inl, inr, length, map, refl, subst, sym}
use Rattle.std.specs.List.{AllByRecursion, flat_map}
use Rattle.std.specs.Prelude.{⊤, IfErr, ◌&&◌, if◌then◌else◌, bytes_eq, codes, cond, not}
use Rattle.std.proofs.lemmas.Bool.{ne_eqb}
use Rattle.law_texts.specs.Digits.{decimal_number, is_numeral}
use Rattle.law_texts.specs.Front.{byte_at}
use Rattle.std.proofs.lemmas.Grind.{flat_map-append}
use Rattle.std.proofs.lemmas.List.{map-append}
use Rattle.std.proofs.lemmas.List.Elements.{filter-append}
use Rattle.smt_dimacs.specs.Entries.{End, Entry, Of, clause_entries, counts_of, entry_of}
use Rattle.smt_dimacs.specs.Faults.{AtEnd, InBody, InProblem, IsCountFault, IsEmpty, HasCause, IsMemoryForFormulas, IsProblemFault, IsWordFault, begins_problem}
use Rattle.smt_dimacs.specs.Formulas.{AreOf, IsFormula, IsSmall, greatest}
use Rattle.smt_dimacs.specs.Laws.{FaultsAreInNoFormula, FormulasAreOne}
use Rattle.smt_dimacs.specs.declared.formula.Formula.{Formula}
use Rattle.smt_dimacs.specs.Words.{has_some, lines_of, words_of, worded}
use Rattle.smt_dimacs.specs.declared.error.FormulaError.{FormulaError}
use Rattle.smt_dimacs.specs.declared.error.FormulaError.TheVariants.{Refused, TooLarge, Memory}
use Rattle.smt_dimacs.specs.declared.error.FormulaFault.{FormulaFault}
use Rattle.smt_dimacs.specs.declared.error.FormulaFault.TheVariants.{NoHeader, BadHeader, LargeHeader, SecondHeader, PercentSign, NoNumber, LargeVariable, TooManyClauses, TooFewClauses, OpenClause}

-- ---- entries are those of one list of clauses

-- the clauses that entries end, and the literals behind the last end; `begun` are the literals before
ended_by : (begun : List ℕ) → List Entry → List (List ℕ) × List ℕ
ended_by begun [] = ([], begun)
ended_by begun (End ∷ es) = let rest = ended_by [] es in (begun ∷ rest.0, rest.1)
ended_by begun (Of l ∷ es) = ended_by (begun ++ l ∷ []) es

literals_ended : (begun c : List ℕ) (es : List Entry) → ended_by begun (map Of c ++ es) ≡ ended_by (begun ++ c) es
unfolding ended_by
literals_ended begun [] es = ap (λ (b : List ℕ). ended_by b es) (sym (append-nil begun))
literals_ended begun (l ∷ c) es = literals_ended (begun ++ l ∷ []) c es ∙ ap (λ (b : List ℕ). ended_by b es) (append_assoc begun (l ∷ []) c)

clauses_ended : (cs : List (List ℕ)) (o : List ℕ) → ended_by [] (flat_map clause_entries cs ++ map Of o) ≡ (cs, o)
unfolding ended_by
clauses_ended [] o = ap (λ (es : List Entry). ended_by [] es) (sym (append-nil (map Of o))) ∙ literals_ended [] o []
clauses_ended (c ∷ cs) o =
    let rest = flat_map clause_entries cs in
    let apart = append_assoc (clause_entries c) rest (map Of o) ∙ append_assoc (map Of c) (End ∷ []) (rest ++ map Of o) in
    ap (λ (es : List Entry). ended_by [] es) apart ∙ (literals_ended [] c (End ∷ (rest ++ map Of o)) ∙ ap (λ (r : List (List ℕ) × List ℕ). (c ∷ r.0, r.1)) (clauses_ended cs o))

said_of : Option Entry → Entry
said_of None = End
said_of (Some e) = e

all_said : (es : List Entry) → map said_of (map Some es) ≡ es
unfolding said_of
all_said [] = refl
all_said (e ∷ es) = ap (λ (l : List Entry). e ∷ l) (all_said es)

same_said : (es fs : List Entry) → map Some es ≡ map Some fs → es ≡ fs
same_said es fs same = sym (all_said es) ∙ (ap (map said_of) same ∙ all_said fs)

-- entries of clauses, and of others with an unfinished one, are of the same clauses
pub same_clauses : (cs ds : List (List ℕ)) (o : List ℕ) → map Some (flat_map clause_entries cs) ≡ map Some (flat_map clause_entries ds ++ map Of o) → (cs ≡ ds) × ([] ≡ o)
same_clauses cs ds o same =
    let es = same_said _ _ (ap (map Some) (append-nil (flat_map clause_entries cs)) ∙ same) in
    let both = sym (clauses_ended cs []) ∙ (ap (λ (l : List Entry). ended_by [] l) es ∙ clauses_ended ds o) in
    (ap (λ (r : List (List ℕ) × List ℕ). r.0) both, ap (λ (r : List (List ℕ) × List ℕ). r.1) both)

-- ---- each word of a formula is a number, of a variable that there is

-- what a word says is an end or a literal of one of so many variables
abbrev Fits : (variables : ℕ) → Option Entry → Type 0
Fits variables None = ⊥
Fits variables (Some End) = ⊤
Fits variables (Some (Of l)) = l < 2 * variables

module _ (variables : ℕ) where
  all_fit : (es : List (Option Entry)) (fs : List (Option Entry)) → AllByRecursion (Fits variables) es → AllByRecursion (Fits variables) fs → AllByRecursion (Fits variables) (es ++ fs)
  all_fit [] fs h k = k
  all_fit (e ∷ es) fs h k = (h.0, all_fit es fs h.1 k)

  literals_fit : (c : List ℕ) → AreOf variables c → AllByRecursion (Fits variables) (map Some (clause_entries c))
  literals_fit [] h = (tt, tt)
  literals_fit (l ∷ c) h = (h.0, literals_fit c h.1)

  clauses_fit : (cs : List (List ℕ)) → AllByRecursion (AreOf variables) cs → AllByRecursion (Fits variables) (map Some (flat_map clause_entries cs))
  clauses_fit [] h = tt
  clauses_fit (c ∷ cs) h =
      subst (AllByRecursion (Fits variables)) (sym (map-append Some (clause_entries c) (flat_map clause_entries cs)))
      (all_fit (map Some (clause_entries c)) (map Some (flat_map clause_entries cs)) (literals_fit c h.0) (clauses_fit cs h.1))

  one_fits : (front back : List (List ℕ)) (word : List ℕ) → AllByRecursion (Fits variables) (map entry_of (front ++ word ∷ back)) → Fits variables (entry_of word)
  one_fits [] back word h = h.0
  one_fits (w ∷ front) back word h = one_fits front back word h.1

  -- a word that fits has no fault
  no_word_fault : (word : List ℕ) (fault : FormulaFault) → Fits variables (entry_of word) → IsWordFault variables word fault → ⊥
  unfolding byte_at
  no_word_fault word SecondHeader fits is = subst (λ (w : List ℕ). Fits variables (entry_of w)) is fits
  no_word_fault word PercentSign fits is = subst (λ (w : List ℕ). Fits variables (entry_of w)) is fits
  no_word_fault word NoNumber fits is = subst (Fits variables) is fits
  no_word_fault word LargeVariable fits is = let below : is.literal < 2 * variables = subst (Fits variables) is.says fits in omega (arith, below, is.above)
  no_word_fault word NoHeader fits is = is
  no_word_fault word BadHeader fits is = is
  no_word_fault word LargeHeader fits is = is
  no_word_fault word TooManyClauses fits is = is
  no_word_fault word TooFewClauses fits is = is
  no_word_fault word OpenClause fits is = is

-- ---- lines

worded_apart : (ls ms : List (List ℕ)) → worded (ls ++ ms) ≡ worded ls ++ worded ms
worded_apart ls ms = ap (filter has_some) (map-append words_of ls ms) ∙ filter-append has_some (map words_of ls) (map words_of ms)

some_begun : (w : List ℕ) (ws : List (List ℕ)) → has_some (w ∷ ws) ≡ true
some_begun w ws = ap not (ne_eqb (suc (length ws)) 0 (λ none. omega arith))

has_one : (words front back : List (List ℕ)) (word : List ℕ) → words ≡ front ++ word ∷ back → has_some words ≡ true
has_one words [] back word whole = ap has_some whole ∙ some_begun word back
has_one words (w ∷ front) back word whole = ap has_some whole ∙ some_begun w (front ++ word ∷ back)

-- a line with words is not left out
first_kept : (words : List (List ℕ)) (rest : List (List (List ℕ))) → has_some words ≡ true → filter has_some (words ∷ rest) ≡ words ∷ filter has_some rest
first_kept words rest some = ap (λ (b : Bool). cond b (words ∷ filter has_some rest) (filter has_some rest)) some

-- ---- the problem line

chosen : {X : Type 0} (a b c d : Bool) (x y : X) → (if a && b && c && d then Some x else None) ≡ Some y → a ≡ true
chosen true b c d x y e = refl
chosen false b c d x y e = absurd (cc)

counted_begins : (words : List (List ℕ)) (n m : ℕ) → counts_of words ≡ Some (n, m) → begins_problem words ≡ true
counted_begins (p ∷ format ∷ v ∷ c ∷ []) n m e = chosen (bytes_eq p (codes "p")) (bytes_eq format (codes "cnf")) (is_numeral v) (is_numeral c) (decimal_number v, decimal_number c) (n, m) e
counted_begins words n m e = absurd (cc)

counted_some : (words : List (List ℕ)) (n m : ℕ) → counts_of words ≡ Some (n, m) → has_some words ≡ true
counted_some [] n m e = absurd (cc)
counted_some (w ∷ ws) n m e = some_begun w ws

begun_some : (words : List (List ℕ)) → begins_problem words ≡ true → has_some words ≡ true
begun_some [] e = absurd (cc)
begun_some (w ∷ ws) e = some_begun w ws

count_of : Option (ℕ × ℕ) → ℕ × ℕ
count_of None = (0, 0)
count_of (Some counts) = counts

same_counts : (p q : ℕ × ℕ) → Some p ≡ Some q → (p.0 ≡ q.0) × (p.1 ≡ q.1)
unfolding count_of
same_counts p q same = (ap (λ (o : Option (ℕ × ℕ)). (count_of o).0) same, ap (λ (o : Option (ℕ × ℕ)). (count_of o).1) same)

not_large : (g : ℕ) (p q : ℕ × ℕ) → Some p ≡ Some q → p.0 ≤ g → p.1 ≤ g → (g < q.0) ⊎ (g < q.1) → ⊥
not_large g p q same few_variables few_clauses (inl large) = let is = same_counts p q same in omega (arith, is.0, few_variables, large)
not_large g p q same few_variables few_clauses (inr large) = let is = same_counts p q same in omega (arith, is.1, few_clauses, large)

problem_has_words : (words : List (List ℕ)) (fault : FormulaFault) → IsProblemFault words fault → has_some words ≡ true
problem_has_words words NoHeader is = is.0
problem_has_words words BadHeader is = begun_some words is.0
problem_has_words words LargeHeader is = counted_some words is.variables is.clauses is.counts
problem_has_words words SecondHeader is = absurd is
problem_has_words words PercentSign is = absurd is
problem_has_words words NoNumber is = absurd is
problem_has_words words LargeVariable is = absurd is
problem_has_words words TooManyClauses is = absurd is
problem_has_words words TooFewClauses is = absurd is
problem_has_words words OpenClause is = absurd is

module _ (words : List (List ℕ)) (n m : ℕ) (counts : counts_of words ≡ Some (n, m)) (n_few : n ≤ greatest) (m_few : m ≤ greatest) where
  no_problem_fault : (fault : FormulaFault) → IsProblemFault words fault → ⊥
  no_problem_fault NoHeader is = let begins = counted_begins words n m counts in absurd (cc)
  no_problem_fault BadHeader is = absurd (cc)
  no_problem_fault LargeHeader is = not_large greatest (n, m) (is.variables, is.clauses) (sym counts ∙ is.counts) n_few m_few is.large
  no_problem_fault SecondHeader is = is
  no_problem_fault PercentSign is = is
  no_problem_fault NoNumber is = is
  no_problem_fault LargeVariable is = is
  no_problem_fault TooManyClauses is = is
  no_problem_fault TooFewClauses is = is
  no_problem_fault OpenClause is = is

-- ---- the end

no_count_fault : (cs : List (List ℕ)) (fault : FormulaFault) → IsCountFault (length cs) cs [] fault → ⊥
no_count_fault cs OpenClause is = is refl
no_count_fault cs TooManyClauses is = omega (arith, is)
no_count_fault cs TooFewClauses is = omega (arith, is.0)
no_count_fault cs NoHeader is = is
no_count_fault cs BadHeader is = is
no_count_fault cs LargeHeader is = is
no_count_fault cs SecondHeader is = is
no_count_fault cs PercentSign is = is
no_count_fault cs NoNumber is = is
no_count_fault cs LargeVariable is = is

-- ---- faults

head_of : List (List (List ℕ)) → List (List ℕ)
head_of [] = []
head_of (x ∷ xs) = x

tail_of : List (List (List ℕ)) → List (List (List ℕ))
tail_of [] = []
tail_of (x ∷ xs) = xs

same_lines : (p q : List (List ℕ)) (ps qs : List (List (List ℕ))) → p ∷ ps ≡ q ∷ qs → (p ≡ q) × (ps ≡ qs)
unfolding head_of tail_of
same_lines p q ps qs same = (ap head_of same, ap tail_of same)

abbrev all_words : List (List (List ℕ)) → List (List ℕ)
all_words lines = flat_map (λ words. words) lines

module _ (text : List ℕ) (variables : ℕ) (cs : List (List ℕ)) (is : IsFormula text variables cs) (few : IsSmall text variables (length cs)) where
  -- the problem line that was read is that of the formula
  counts_here : (problem : List (List ℕ)) (n m : ℕ) → is.problem ≡ problem → counts_of problem ≡ Some (n, m) → (variables ≡ n) × (length cs ≡ m)
  counts_here problem n m same counts = same_counts (variables, length cs) (n, m) (sym is.counts ∙ (ap counts_of same ∙ counts))

  module _ (before : List (List ℕ)) (line : List ℕ) (after : List (List ℕ)) (fault : FormulaFault) (lines : lines_of text ≡ before ++ line ∷ after) where
    begun : is.problem ∷ is.body ≡ worded before ++ worded (line ∷ after)
    begun = sym is.lines ∙ (ap worded lines ∙ worded_apart before (line ∷ after))

    not_in_problem : InProblem before line after fault → ⊥
    not_in_problem h =
        let first = first_kept (words_of line) (map words_of after) (problem_has_words (words_of line) fault h.what) in
        let whole = begun ∙ (ap (λ (l : List (List (List ℕ))). l ++ worded (line ∷ after)) h.first ∙ first) in
        let same = same_lines is.problem (words_of line) is.body (worded after) whole in
        no_problem_fault (words_of line) variables (length cs) (ap counts_of (sym same.0) ∙ is.counts) few.variables_few few.clauses_few fault h.what

    not_in_body : InBody before line after fault → ⊥
    not_in_body h =
        let w = h.what in
        let some : has_some (words_of line) ≡ true = has_one (words_of line) w.front w.back w.word w.whole in
        let rest = words_of line ∷ worded after in
        let whole = begun ∙ (ap (λ (l : List (List (List ℕ))). l ++ worded (line ∷ after)) h.begun ∙ ap (λ (l : List (List (List ℕ))). h.problem ∷ (h.body ++ l)) (first_kept (words_of line) (map words_of after) some)) in
        let same = same_lines is.problem h.problem is.body (h.body ++ rest) whole in
        let words : all_words is.body ≡ (all_words h.body ++ w.front) ++ w.word ∷ (w.back ++ all_words (worded after)) =
        ap all_words same.1 ∙ (flat_map-append (λ words. words) h.body rest ∙ (ap (λ (l : List (List ℕ)). all_words h.body ++ (l ++ all_words (worded after))) w.whole
        ∙ (ap (λ (l : List (List ℕ)). all_words h.body ++ l) (append_assoc w.front (w.word ∷ w.back) (all_words (worded after))) ∙ sym (append_assoc (all_words h.body) w.front (w.word ∷ (w.back ++ all_words (worded after))))))) in
        let fit = subst (AllByRecursion (Fits variables)) (sym is.entries ∙ ap (map entry_of) words) (clauses_fit variables cs is.within) in
        let one = one_fits variables (all_words h.body ++ w.front) (w.back ++ all_words (worded after)) w.word fit in
        no_word_fault h.variables w.word fault (subst (λ (n : ℕ). Fits n (entry_of w.word)) (counts_here h.problem h.variables h.clauses same.0 h.counts).0 one) w.what

    not_empty : IsEmpty before line after fault → ⊥
    not_empty h =
        let none = sym is.lines ∙ (ap worded lines ∙ (ap (λ (l : List (List ℕ)). worded (before ++ line ∷ l)) h.last ∙ h.none)) in
        absurd (cc)

    not_at_end : AtEnd before line after fault → ⊥
    not_at_end h =
        let whole = sym is.lines ∙ (ap worded lines ∙ (ap (λ (l : List (List ℕ)). worded (before ++ line ∷ l)) h.last ∙ h.begun)) in
        let same = same_lines is.problem h.problem is.body h.body whole in
        let counts = counts_here h.problem h.variables h.clauses same.0 h.counts in
        let read = same_clauses cs h.cs h.open_clause (sym is.entries ∙ (ap (λ (b : List (List (List ℕ))). map entry_of (all_words b)) same.1 ∙ h.read.entries)) in
        no_count_fault h.cs fault
        (subst (λ (n : ℕ). IsCountFault n h.cs [] fault) (sym counts.1 ∙ ap length read.0)
        (subst (λ (o : List ℕ). IsCountFault h.clauses h.cs o fault) (sym read.1) h.what))

    not_there : (InProblem before line after fault ⊎ InBody before line after fault) ⊎ (IsEmpty before line after fault ⊎ AtEnd before line after fault) → ⊥
    not_there (inl (inl h)) = not_in_problem h
    not_there (inl (inr h)) = not_in_body h
    not_there (inr (inl h)) = not_empty h
    not_there (inr (inr h)) = not_at_end h

pub faults_are_in_no_formula : FaultsAreInNoFormula
faults_are_in_no_formula text fault line variables cs at is few = not_there text variables cs is few at.before at.line at.after fault at.lines at.fault_is

-- ---- one formula

pub formulas_are_one : FormulasAreOne
formulas_are_one text variables others cs ds is ds_are =
    let same = same_lines is.problem ds_are.problem is.body ds_are.body (sym is.lines ∙ ds_are.lines) in
    let counts = same_counts (variables, length cs) (others, length ds) (sym is.counts ∙ (ap counts_of same.0 ∙ ds_are.counts)) in
    let read = same_clauses cs ds [] (sym is.entries ∙ (ap (λ (b : List (List (List ℕ))). map entry_of (all_words b)) same.1 ∙ (ds_are.entries ∙ ap (map Some) (sym (append-nil (flat_map clause_entries ds)))))) in
    (counts.0, read.0)

-- ---- the reader

cause_is_memory : (text : List ℕ) (error : FormulaError) → HasCause text error → IsMemoryForFormulas text error
cause_is_memory text Memory cause variables cs is few = refl
cause_is_memory text TooLarge cause variables cs is few = let bytes = few.bytes in absurd (omega (arith, bytes, cause))
cause_is_memory text (Refused fault line) cause variables cs is few = absurd (faults_are_in_no_formula text fault line variables cs cause is few)

pub result_complete : (text : List ℕ) (result : Result Formula FormulaError) → IfErr result (HasCause text) → IfErr result (IsMemoryForFormulas text)
result_complete text (Ok formula) cause = tt
result_complete text (Err error) cause = cause_is_memory text error cause
