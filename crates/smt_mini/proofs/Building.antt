-- What building gates leaves.
use Rattle.std.proofs.Common.{◌≡◌, ℕ, suc, Bool, true, false, ◌&&◌, ◌||◌, not, List, [], ◌∷◌, ◌++◌, Option, Some, None, length, map, bytes_eq, codes, refl, sym, ap, ap₂, ◌∙◌, subst, arith, append_assoc}
use Rattle.std.proofs.lemmas.Bool.{and_parts, and_from, false≢true}
use Rattle.std.proofs.lemmas.List.{append-nil, length-append}
use Rattle.law_texts.specs.Lexicon.{Name}
use Rattle.law_texts.specs.Reading.{Expression, Leaf, Node, Expressions, Nil, Cons, expressions}
use Rattle.law_texts.specs.Options.{◌>>=◌}
use Rattle.law_scripts.specs.ScriptValues.{ScriptValue, TruthOf}
use Rattle.law_scripts.specs.Script.{Entry, State, are_all, assertions_of, count, each_stated, has_name, has_sort, knows, name, names_of}
use Rattle.law_scripts.specs.Sorts.{each_there, entries}
use Rattle.law_scripts.specs.Value.{ScriptInterpretation, applied_value, evaluate_each, expression_value, first_sort, meaning}
use Rattle.law_verdicts.specs.Fragment.{are_formulas, is_connective, is_formula, is_truth, is_truth_name}
use Rattle.law_verdicts.specs.Truths.{connected}
use Rattle.law_texts.proofs.SameTexts.{other_text}
use Rattle.law_verdicts.proofs.Truths.{applied_word, truth_values, word_gives}
use Rattle.law_verdicts.proofs.Formulas.{IsWord, is_and, is_choice, is_equal, is_not, is_or, word_of}
use Rattle.law_scripts.specs.Written.{is_name}
use Rattle.smt_sexpr.specs.View.{plain, plain_list}
use Rattle.smt_sexpr.specs.declared.expression.SExpr.{SExpr}
use Rattle.smt_mini.specs.Building.{Built, BuiltEach, applied}
use Rattle.smt_mini.specs.Gates.{gate_truth, gate_value, value_at, values_behind}
use Rattle.smt_mini.specs.Tables.{Agrees, Fits, FitsEntry, HasValue, HaveValues, Table, by_name, found_in, gained}
use Rattle.smt_mini.specs.declared.gate.Gate.{Gate}
use Rattle.smt_mini.specs.declared.gate.Gate.TheVariants.{Truth}
use Rattle.smt_mini.proofs.Gates.{truth_kept, truth_of_last}

-- ---- more gates change nothing

pub value_kept : (t : Table) (hs : List Gate) (s : State) (e : Expression) (p : ℕ) → HasValue t s e p → HasValue (gained t hs) s e p
value_kept t hs s e p h = record {
  within = omega (arith, h.within, length-append t.gates hs);
  known = h.known;
  value = λ f at a. h.value f at a ∙ ap (λ b. Some (TruthOf b)) (sym (truth_kept at t.gates hs p h.within));
}

-- so each of several values is kept
pub each_kept : (t u : Table) (s v : State) → ((e : Expression) (p : ℕ) → HasValue t s e p → HasValue u v e p) → (es : List Expression) (ps : List ℕ) → HaveValues t s es ps → HaveValues u v es ps
each_kept t u s v k [] [] h = tt
each_kept t u s v k [] (p ∷ ps) h = absurd h
each_kept t u s v k (e ∷ es) [] h = absurd h
each_kept t u s v k (e ∷ es) (p ∷ ps) h = (k e p h.0, each_kept t u s v k es ps h.1)

values_kept : (t : Table) (hs : List Gate) (s : State) (es : List Expression) (ps : List ℕ) → HaveValues t s es ps → HaveValues (gained t hs) s es ps
values_kept t hs s es ps h = each_kept t (gained t hs) s s (value_kept t hs s) es ps h

pub fits_kept : (t : Table) (hs : List Gate) (s : State) → Fits t s → Fits (gained t hs) s
fits_kept t hs s h = record {
  names = h.names;
  values = λ n p k. value_kept t hs s (name n) p (h.values n p k);
  assertions = values_kept t hs s (assertions_of s) t.assertions h.assertions;
  constants = h.constants;
  distinct = h.distinct;
  sorts = h.sorts;
}

pub gained_nothing : (t : Table) → t ≡ gained t []
gained_nothing t = ap (λ gs. record t { gates = gs }) (sym (append-nil t.gates))

pub gained_twice : (t u w : Table) (gs hs : List Gate) → u ≡ gained t gs → w ≡ gained u hs → w ≡ gained t (gs ++ hs)
gained_twice t u w gs hs p q = q ∙ ap (λ x. gained x hs) p ∙ ap (λ x. record t { gates = x }) (append_assoc t.gates gs hs)

-- ---- names

-- a gate of one truth
pub truth_built : (t u : Table) (s : State) (n word : List ℕ) (b : Bool) (p : ℕ) → n ≡ word → has_name s word ≡ true → ((j : ScriptInterpretation) → expression_value j s (name word) ≡ Some (TruthOf b))
    → p ≡ length t.gates → u ≡ gained t (Truth b ∷ []) → Built t u s (name n) (Some p)
truth_built t u s n word b p e k v l g =
    let here : HasValue (gained t (Truth b ∷ [])) s (name word) (length t.gates) = record {
      within = omega (arith, length-append t.gates (Truth b ∷ []));
      known = k;
      value = λ f at a. v (by_name f) ∙ ap (λ c. Some (TruthOf c)) (sym (truth_of_last at t.gates (Truth b)));
    } in (
      (Truth b ∷ [], g),
      subst (λ x. HasValue x s (name n) p) (sym g) (subst (λ x. HasValue (gained t (Truth b ∷ [])) s (name n) x) (sym l) (subst (λ x. HasValue (gained t (Truth b ∷ [])) s (name x) (length t.gates)) (sym e) here)),
    )

-- the gate, if there is one
abbrev pub flat : Option (Option ℕ) → Option ℕ
flat (Some gate) = gate
flat None = None

no_truth : (o : Option (Option ℕ)) (x : Option Entry) → FitsEntry o x → flat o ≡ None → is_truth x ≡ false
no_truth None x h e = ap is_truth h
no_truth (Some None) x h e = h.1
no_truth (Some (Some p)) x h e = absurd cc

not_known : (s : State) (n : List ℕ) → is_truth_name s n ≡ true → bytes_eq n (codes "true") ≡ false → bytes_eq n (codes "false") ≡ false → is_truth (entries s n) ≡ false → has_name s n ≡ false
not_known s n h a b x = by (has_name s n) (ap₂ (λ p q. (p || q) || (not (has_name s n) || is_truth (entries s n))) (sym a) (sym b) ∙ (and_parts (is_name n) ((bytes_eq n (codes "true") || bytes_eq n (codes "false")) || (not (has_name s n) || is_truth (entries s n))) h).1)
  where
    by : (here : Bool) → (not here || is_truth (entries s n)) ≡ true → here ≡ false
    by false k = refl
    by true k = absurd (false≢true (sym x ∙ k))

found_flat : (o : Option (Option ℕ)) (p : ℕ) → flat o ≡ Some p → o ≡ Some (Some p)
found_flat None p h = absurd cc
found_flat (Some None) p h = absurd cc
found_flat (Some (Some q)) p h = ap Some h

pub name_built : (t u : Table) (s : State) (n : List ℕ) (r : Option ℕ) → Fits t s → is_truth_name s n ≡ true → (n ≡ codes "true" → ⊥) → (n ≡ codes "false" → ⊥) → r ≡ flat (found_in t n) → u ≡ t → Built t u s (name n) r
name_built t u s n None f h a b e w = not_known s n h (other_text n (codes "true") a) (other_text n (codes "false") b) (no_truth (found_in t n) (entries s n) (f.names n) (sym e))
name_built t u s n (Some p) f h a b e w =
    (([], w ∙ gained_nothing t), subst (λ x. HasValue x s (name n) p) (sym w) (f.values n p (found_flat (found_in t n) p (sym e))))

-- ---- applications

-- a connective is known where its operands are
word_known : (s : State) (f : List ℕ) (n : ℕ) → IsWord f n → (es : Expressions) → count es ≡ n → knows s (Node (Cons (Leaf (Name f)) es)) ≡ are_all (each_stated (has_sort s) (has_name s) es)
word_known s f n is_not Nil h = absurd cc
word_known s f n is_and Nil h = absurd cc
word_known s f n is_or Nil h = absurd cc
word_known s f n is_equal Nil h = absurd cc
word_known s f n is_choice Nil h = absurd cc
word_known s f n is_not (Cons e es) h = refl
word_known s f n is_and (Cons e es) h = refl
word_known s f n is_or (Cons e es) h = refl
word_known s f n is_equal (Cons e es) h = refl
word_known s f n is_choice (Cons e es) h = refl

-- ---- what several gates say

have_known : (t : Table) (s : State) (es : List Expression) (ps : List ℕ) → HaveValues t s es ps → are_all (each_stated (has_sort s) (has_name s) (expressions es)) ≡ true
have_known t s [] [] h = refl
have_known t s [] (p ∷ ps) h = absurd h
have_known t s (e ∷ es) [] h = absurd h
have_known t s (e ∷ es) (p ∷ ps) h = and_from (knows s e) (are_all (each_stated (has_sort s) (has_name s) (expressions es))) h.0.known (have_known t s es ps h.1)

have_truths : (t : Table) (s : State) (es : List Expression) (ps : List ℕ) → HaveValues t s es ps → (f : List ℕ → Bool) (at : ℕ → Bool) → Agrees f at t.constants
    → evaluate_each (entries s) (meaning (by_name f) (names_of s)) (expressions es) ≡ truth_values (map (gate_truth at t.gates) ps)
have_truths t s [] [] h f at a = refl
have_truths t s [] (p ∷ ps) h f at a = absurd h
have_truths t s (e ∷ es) [] h f at a = absurd h
have_truths t s (e ∷ es) (p ∷ ps) h f at a = ap₂ (λ (v : Option ScriptValue) (vs : List (Option ScriptValue)). v ∷ vs) (h.0.value f at a) (have_truths t s es ps h.1 f at a)

have_many : (t : Table) (s : State) (es : List Expression) (ps : List ℕ) → HaveValues t s es ps → length ps ≡ count (expressions es)
have_many t s [] [] h = refl
have_many t s [] (p ∷ ps) h = absurd h
have_many t s (e ∷ es) [] h = absurd h
have_many t s (e ∷ es) (p ∷ ps) h = ap suc (have_many t s es ps h.1)

mapped_long : (f : ℕ → Bool) (ps : List ℕ) → length (map f ps) ≡ length ps
mapped_long f [] = refl
mapped_long f (p ∷ ps) = ap suc (mapped_long f ps)

-- the gate of a connective, behind those of its operands
pub application_has_value : (t : Table) (s : State) (n : List ℕ) (es : List Expression) (ps : List ℕ) (g : Gate) → is_connective n (count (expressions es)) ≡ true
    → ((at : ℕ → Bool) (done : List Bool) → gate_value at done g ≡ connected n (map (value_at done) ps)) → HaveValues t s es ps
    → HasValue (gained t (g ∷ [])) s (Node (Cons (Leaf (Name n)) (expressions es))) (length t.gates)
application_has_value t s n es ps g c v h =
    let w = word_of n (count (expressions es)) c in
    record {
      within = omega (arith, length-append t.gates (g ∷ []));
      known = word_known s n (count (expressions es)) w (expressions es) refl ∙ have_known t s es ps h;
      value = λ f at a.
          applied_word (entries s) (meaning (by_name f) (names_of s)) n (count (expressions es)) w (expressions es) refl
          ∙ ap (λ vs. each_there vs >>= applied_value (meaning (by_name f) (names_of s)) n (first_sort (entries s) (expressions es))) (have_truths t s es ps h f at a)
          ∙ word_gives (meaning (by_name f) (names_of s)) (first_sort (entries s) (expressions es)) n (count (expressions es)) w (map (gate_truth at t.gates) ps) (mapped_long (gate_truth at t.gates) ps ∙ have_many t s es ps h)
          ∙ ap (λ b. Some (TruthOf b)) (sym (truth_of_last at t.gates g ∙ v at (values_behind at [] t.gates)));
    }

pub formula_parts : (has : List ℕ → Bool) (n : List ℕ) (es : List SExpr) → is_formula has (applied n es) ≡ true → (is_connective n (count (plain_list es)) ≡ true) × (are_formulas has (plain_list es) ≡ true)
formula_parts has n es h = and_parts (is_connective n (count (plain_list es))) (are_formulas has (plain_list es)) h

pub application_built : (t u w : Table) (s : State) (n : List ℕ) (es : List SExpr) (ps : List ℕ) (g : Gate) (p : ℕ) → is_formula (is_truth_name s) (applied n es) ≡ true
    → ((at : ℕ → Bool) (done : List Bool) → gate_value at done g ≡ connected n (map (value_at done) ps)) → BuiltEach t u s (map plain es) (Some ps)
    → p ≡ length u.gates → w ≡ gained u (g ∷ []) → Built t w s (applied n es) (Some p)
application_built t u w s n es ps g p h v b l k =
    let c = (formula_parts (is_truth_name s) n es h).0 in (
      (b.0.0 ++ g ∷ [], gained_twice t u w b.0.0 (g ∷ []) b.0.1 k),
      subst (λ x. HasValue x s (applied n es) p) (sym k) (subst (HasValue (gained u (g ∷ [])) s (applied n es)) (sym l) (application_has_value u s n (map plain es) ps g c v b.1)),
    )

-- a name in an operand is not there
pub application_unknown : (s : State) (n : List ℕ) (es : List SExpr) → is_formula (is_truth_name s) (applied n es) ≡ true → are_all (each_stated (has_sort s) (has_name s) (plain_list es)) ≡ false → knows s (applied n es) ≡ false
application_unknown s n es h k =
    let c = (formula_parts (is_truth_name s) n es h).0 in
    word_known s n (count (plain_list es)) (word_of n (count (plain_list es)) c) (plain_list es) refl ∙ k

-- ---- operand by operand

-- The first operands have gates, and those that follow are formulas too.
pub record Building (t u : Table) (s : State) (front rest all : List SExpr) (ps : List ℕ) : Type 0 where
  pub gains : (gs : List Gate) × (u ≡ gained t gs)
  pub values : HaveValues u s (map plain front) ps
  pub formulas : are_formulas (is_truth_name s) (plain_list rest) ≡ true
  pub known : are_all (each_stated (has_sort s) (has_name s) (plain_list all)) ≡ are_all (each_stated (has_sort s) (has_name s) (plain_list rest))

pub none_built : (t : Table) (s : State) (all : List SExpr) → are_formulas (is_truth_name s) (plain_list all) ≡ true → Building t t s [] all all []
none_built t s all h = record { gains = ([], gained_nothing t); values = tt; formulas = h; known = refl }

pub one_behind : (t : Table) (s : State) (es : List Expression) (ps : List ℕ) (e : Expression) (p : ℕ) → HaveValues t s es ps → HasValue t s e p → HaveValues t s (es ++ e ∷ []) (ps ++ p ∷ [])
one_behind t s [] [] e p h k = (k, tt)
one_behind t s [] (q ∷ ps) e p h k = absurd h
one_behind t s (d ∷ es) [] e p h k = absurd h
one_behind t s (d ∷ es) (q ∷ ps) e p h k = (h.0, one_behind t s es ps e p h.1 k)

map_behind : (es : List SExpr) (e : SExpr) → map plain (es ++ e ∷ []) ≡ map plain es ++ plain e ∷ []
map_behind [] e = refl
map_behind (d ∷ es) e = ap (λ xs. plain d ∷ xs) (map_behind es e)

pub next_is_formula : (t u : Table) (s : State) (front rest all : List SExpr) (e : SExpr) (ps : List ℕ) → Building t u s front (e ∷ rest) all ps → is_formula (is_truth_name s) (plain e) ≡ true
next_is_formula t u s front rest all e ps b = (and_parts (is_formula (is_truth_name s) (plain e)) (are_formulas (is_truth_name s) (plain_list rest)) b.formulas).0

pub next_fits : (t u : Table) (s : State) (front rest all : List SExpr) (ps : List ℕ) → Fits t s → Building t u s front rest all ps → Fits u s
next_fits t u s front rest all ps f b = subst (λ x. Fits x s) (sym b.gains.1) (fits_kept t b.gains.0 s f)

pub one_built : (t u w : Table) (s : State) (front rest all : List SExpr) (e : SExpr) (ps : List ℕ) (p : ℕ) → Building t u s front (e ∷ rest) all ps → Built u w s (plain e) (Some p) → Building t w s (front ++ e ∷ []) rest all (ps ++ p ∷ [])
one_built t u w s front rest all e ps p b k = record {
  gains = (b.gains.0 ++ k.0.0, gained_twice t u w b.gains.0 k.0.0 b.gains.1 k.0.1);
  values = subst (λ xs. HaveValues w s xs (ps ++ p ∷ [])) (sym (map_behind front e)) (one_behind w s (map plain front) ps (plain e) p (subst (λ x. HaveValues x s (map plain front) ps) (sym k.0.1) (values_kept u k.0.0 s (map plain front) ps b.values)) k.1);
  formulas = (and_parts (is_formula (is_truth_name s) (plain e)) (are_formulas (is_truth_name s) (plain_list rest)) b.formulas).1;
  known = b.known ∙ ap (λ x. x && are_all (each_stated (has_sort s) (has_name s) (plain_list rest))) k.1.known;
}

pub not_built : (t u w : Table) (s : State) (front rest all : List SExpr) (e : SExpr) (ps : List ℕ) → Building t u s front (e ∷ rest) all ps → Built u w s (plain e) None → BuiltEach t w s (map plain all) None
not_built t u w s front rest all e ps b k = b.known ∙ ap (λ x. x && are_all (each_stated (has_sort s) (has_name s) (plain_list rest))) k

pub all_built : (t u : Table) (s : State) (front all : List SExpr) (ps : List ℕ) → Building t u s front [] all ps → front ≡ all → BuiltEach t u s (map plain all) (Some ps)
all_built t u s front all ps b e = (b.gains, subst (λ xs. HaveValues u s (map plain xs) ps) e b.values)
