-- How far lines and words are read, at one more of them.
use Rattle.std.proofs.Common.{◌≡◌, ◌∙◌, ◌+◌, ◌<◌, ℕ, suc, List, [], ◌∷◌, ◌++◌, Bool, true, Option, Some, None, Result, Ok, Err, ap, append-nil, append_assoc, arith, drop, filter, get_or, inl, inr, length, length-append, map, refl, subst, sym, take}
use Rattle.std.specs.List.{flat_map}
use Rattle.std.specs.Prelude.{IfErr, IfOk, IsErrAnd, cond, not}
use Rattle.std.proofs.lemmas.Bool.{ne_eqb}
use Rattle.std.proofs.lemmas.Grind.{flat_map-append}
use Rattle.std.proofs.lemmas.List.{map-append}
use Rattle.std.proofs.lemmas.List.Elements.{filter-append}
use Rattle.smt_clauses.specs.View.{plain_clauses}
use Rattle.smt_dimacs.specs.Entries.{Of, clause_entries, counts_of}
use Rattle.smt_dimacs.specs.Faults.{HasCause}
use Rattle.smt_dimacs.specs.Formulas.{IsFormula}
use Rattle.smt_dimacs.specs.Read.{HasBegun, HasBodyCause, HasEndCause, HasProblemCause, HasRead, HasTaken, IsFinished, IsProblemOf}
use Rattle.smt_dimacs.specs.Spelling.{Spell}
use Rattle.smt_dimacs.specs.Words.{has_some, lines_of, words_of, worded}
use Rattle.smt_dimacs.specs.declared.body.Body.{Body}
use Rattle.smt_dimacs.specs.declared.error.FormulaError.{FormulaError}
use Rattle.smt_dimacs.specs.declared.error.FormulaError.TheVariants.{Refused, TooLarge, Memory}
use Rattle.smt_dimacs.specs.declared.formula.Formula.{Formula}
use Rattle.smt_dimacs.specs.declared.problem.Problem.{Problem}
use Rattle.smt_dimacs.proofs.Lines.{at_turn, last_apart}

-- what holds of an error holds of the error that it became
pub carried : {T : Type 0} (P : FormulaError → Type 0) (result : Result T FormulaError) (e : FormulaError) → IsErrAnd result (λ x. x ≡ e) → P e → IfErr result P
carried P (Ok y) e h p = tt
carried P (Err x) e h p = subst P (sym h) p

-- ---- words

-- a fault in one of some words
pub word_within : (variables number : ℕ) (words front back : List (List ℕ)) (word : List ℕ) (e : FormulaError) → words ≡ front ++ word ∷ back → HasBodyCause variables (word ∷ []) number e → HasBodyCause variables words number e
word_within variables number words front back word Memory whole h = tt
word_within variables number words front back word TooLarge whole h = absurd h
word_within variables number words front back word (Refused fault line) whole h =
    let f = h.1.front in
    let b = h.1.back in (
      h.0,
      record {
        front = front ++ f;
        word = h.1.word;
        back = b ++ back;
        whole = whole ∙ (ap (λ (l : List (List ℕ)). front ++ (l ++ back)) h.1.whole ∙ (ap (λ (l : List (List ℕ)). front ++ l) (append_assoc f (h.1.word ∷ b) back) ∙ sym (append_assoc front f (h.1.word ∷ (b ++ back)))));
        what = h.1.what;
      },
    )

module _ (all front : List (List ℕ)) (run : List ℕ) (n : ℕ) (so_far : front ≡ take n all) (turn : (n < length all) × (run ≡ get_or all n run)) where
  -- a run that is a word stands behind the words that came before it
  pub word_there : has_some run ≡ true → filter has_some all ≡ filter has_some front ++ run ∷ filter has_some (drop (n + 1) all)
  word_there some =
      let rest = drop (n + 1) all in
      ap (filter has_some) (at_turn all front run n so_far turn) ∙ (filter-append has_some front (run ∷ rest) ∙ ap (λ (b : Bool). filter has_some front ++ cond b (run ∷ filter has_some rest) (filter has_some rest)) some)

-- ---- lines

-- a line with words is not left out
kept : (w : List ℕ) (ws : List (List ℕ)) → filter has_some ((w ∷ ws) ∷ []) ≡ (w ∷ ws) ∷ []
kept w ws = ap (λ (b : Bool). cond (not b) ((w ∷ ws) ∷ []) []) (ne_eqb (suc (length ws)) 0 (λ none. omega arith))

-- the words of a line, if it has some
some_words : (words : List (List ℕ)) → flat_map (λ ws. ws) (filter has_some (words ∷ [])) ≡ words
some_words [] = refl
some_words (w ∷ ws) = ap (flat_map (λ ws. ws)) (kept w ws) ∙ append-nil (w ∷ ws)

pub worded_more : (lines : List (List ℕ)) (line : List ℕ) → worded (lines ++ line ∷ []) ≡ worded lines ++ filter has_some (words_of line ∷ [])
worded_more lines line = ap (filter has_some) (map-append words_of lines (line ∷ [])) ∙ filter-append has_some (map words_of lines) (words_of line ∷ [])

counted_words : (words : List (List ℕ)) (n m : ℕ) → counts_of words ≡ Some (n, m) → filter has_some (words ∷ []) ≡ words ∷ []
counted_words [] n m e = absurd (cc)
counted_words (w ∷ ws) n m e = kept w ws

module _ (problem : Problem) (lines : List (List ℕ)) (line : List ℕ) where
  -- the words of one more line are taken
  pub begun_more : (old new : Body) → HasBegun problem old (worded lines) → ((words : List (List ℕ)) → HasTaken problem.variables words old → HasTaken problem.variables (words ++ words_of line) new) → HasBegun problem new (worded (lines ++ line ∷ []))
  begun_more old new h step =
      let more = filter has_some (words_of line ∷ []) in
      let all = λ (ls : List (List (List ℕ))). flat_map (λ ws. ws) ls in
      record {
        first = h.first;
        others = h.others ++ more;
        whole = worded_more lines line ∙ ap (λ (l : List (List (List ℕ))). l ++ more) h.whole;
        counts = h.counts;
        taken = subst (λ (words : List (List ℕ)). HasTaken problem.variables words new) (ap (λ (l : List (List ℕ)). all h.others ++ l) (sym (some_words (words_of line))) ∙ sym (flat_map-append (λ ws. ws) h.others more)) (step (all h.others) h.taken);
      }

  -- the line is the problem line
  pub begun_now : (body : Body) → worded lines ≡ [] → plain_clauses body.clauses ≡ [] → body.clause.items ≡ [] → counts_of (words_of line) ≡ Some (problem.variables, problem.clauses) → HasBegun problem body (worded (lines ++ line ∷ []))
  begun_now body none no_clauses no_literals counts =
      record {
        first = words_of line;
        others = [];
        whole = worded_more lines line ∙ (ap (λ (l : List (List (List ℕ))). l ++ filter has_some (words_of line ∷ [])) none ∙ counted_words (words_of line) problem.variables problem.clauses counts);
        counts = counts;
        taken =
            subst (λ (cs : List (List ℕ)). Spell problem.variables [] cs body.clause.items) (sym no_clauses)
            (subst (λ (c : List ℕ). Spell problem.variables [] [] c) (sym no_literals) (record { entries = refl; within = tt; open_within = tt }));
      }

-- a line without words changes nothing
wordless : (lines : List (List ℕ)) (line : List ℕ) → words_of line ≡ [] → worded lines ≡ [] → worded (lines ++ line ∷ []) ≡ []
wordless lines line no_words none = worded_more lines line ∙ (ap (λ (l : List (List (List ℕ))). l ++ filter has_some (words_of line ∷ [])) none ∙ ap (λ (w : List (List ℕ)). filter has_some (w ∷ [])) no_words)

-- the line is read before the problem line, or is it
pub begun_or_not : (problem : Option Problem) (body : Body) (lines : List (List ℕ)) (line : List ℕ) → HasRead None body (worded lines) → IsProblemOf (words_of line) problem → HasRead problem body (worded (lines ++ line ∷ []))
begun_or_not None body lines line h is = (wordless lines line is h.0, h.1, h.2)
begun_or_not (Some problem) body lines line h is = begun_now problem lines line body h.0 h.1 h.2 is

-- ---- the end

pub finished : (text : List ℕ) (problem : Option Problem) (body : Body) (formula : Formula) → HasRead problem body (worded (lines_of text)) → IsFinished problem body formula → IsFormula text formula.variables (plain_clauses formula.clauses)
finished text None body formula h is = absurd is
finished text (Some problem) body formula h is =
    subst (λ (v : ℕ). IsFormula text v (plain_clauses formula.clauses)) (sym is.2)
    (subst (λ (cs : List (List ℕ)). IsFormula text problem.variables cs) (sym is.3)
    (let cs = plain_clauses body.clauses in
    record {
      problem = h.first;
      body = h.others;
      lines = h.whole;
      counts = h.counts ∙ ap (λ (n : ℕ). Some (problem.variables, n)) (sym is.1);
      entries = h.taken.entries ∙ ap (λ (c : List ℕ). map Some (flat_map clause_entries cs ++ map Of c)) is.0 ∙ ap (map Some) (append-nil (flat_map clause_entries cs));
      within = h.taken.within;
    }))

-- ---- faults

module _ (text : List ℕ) (before : List (List ℕ)) (line : List ℕ) (n number : ℕ) (so_far : before ≡ take n (lines_of text)) (turn : (n < length (lines_of text)) × (line ≡ get_or (lines_of text) n line)) (numbered : number ≡ length before + 1) where
  there : lines_of text ≡ before ++ line ∷ drop (n + 1) (lines_of text)
  there = at_turn (lines_of text) before line n so_far turn

  pub in_problem : (body : Body) (e : FormulaError) → HasRead None body (worded before) → HasProblemCause (words_of line) number e → HasCause text e
  in_problem body Memory h cause = tt
  in_problem body TooLarge h cause = absurd cause
  in_problem body (Refused fault k) h cause = record {
    before = before;
    line = line;
    after = drop (n + 1) (lines_of text);
    lines = there;
    numbered = cause.0 ∙ numbered;
    fault_is = inl (inl (record { first = h.0; what = cause.1 }));
  }

  pub in_body : (problem : Problem) (body : Body) (e : FormulaError) → HasRead (Some problem) body (worded before) → HasBodyCause problem.variables (words_of line) number e → HasCause text e
  in_body problem body Memory h cause = tt
  in_body problem body TooLarge h cause = absurd cause
  in_body problem body (Refused fault k) h cause = record {
    before = before;
    line = line;
    after = drop (n + 1) (lines_of text);
    lines = there;
    numbered = cause.0 ∙ numbered;
    fault_is = inl (inr (record { problem = h.first; body = h.others; begun = h.whole; variables = problem.variables; clauses = problem.clauses; counts = h.counts; what = cause.1 }));
  }

module _ (text : List ℕ) (number : ℕ) (numbered : number ≡ length (lines_of text)) (some : 0 < length (lines_of text)) where
  at_end : (problem : Option Problem) (body : Body) (e : FormulaError) → HasRead problem body (worded (lines_of text)) → HasEndCause problem body number e → (front : List (List ℕ)) (last : List ℕ) → lines_of text ≡ front ++ last ∷ [] → HasCause text e
  at_end problem body Memory h cause front last whole = absurd cause
  at_end problem body TooLarge h cause front last whole = absurd cause
  at_end None body (Refused fault k) h cause front last whole = record {
    before = front;
    line = last;
    after = [];
    lines = whole;
    numbered = cause.0 ∙ (numbered ∙ (ap length whole ∙ length-append front (last ∷ [])));
    fault_is = inr (inl (record { last = refl; none = ap worded (sym whole) ∙ h.0; what = cause.1 }));
  }
  at_end (Some problem) body (Refused fault k) h cause front last whole = record {
    before = front;
    line = last;
    after = [];
    lines = whole;
    numbered = cause.0 ∙ (numbered ∙ (ap length whole ∙ length-append front (last ∷ [])));
    fault_is = inr (inr (record {
      last = refl;
      problem = h.first;
      body = h.others;
      begun = ap worded (sym whole) ∙ h.whole;
      variables = problem.variables;
      clauses = problem.clauses;
      counts = h.counts;
      cs = plain_clauses body.clauses;
      open_clause = body.clause.items;
      read = h.taken;
      what = cause.1;
    }));
  }

  pub ended : (problem : Option Problem) (body : Body) (e : FormulaError) → HasRead problem body (worded (lines_of text)) → HasEndCause problem body number e → HasCause text e
  ended problem body e h cause =
      let apart = last_apart (lines_of text) some in
      at_end problem body e h cause apart.0 apart.1 apart.2

module _ (text : List ℕ) (problem : Option Problem) (body : Body) (lines : List (List ℕ)) (whole : lines ≡ lines_of text) (read : HasRead problem body (worded lines)) (result : Result Formula FormulaError) where
  all_read : HasRead problem body (worded (lines_of text))
  all_read = subst (λ (ls : List (List ℕ)). HasRead problem body (worded ls)) whole read

  by_ok : (r : Result Formula FormulaError) → IfOk r (IsFinished problem body) → IfOk r (λ f. IsFormula text f.variables (plain_clauses f.clauses))
  by_ok (Ok f) is = finished text problem body f all_read is
  by_ok (Err e) is = tt

  pub result_found : IfOk result (IsFinished problem body) → IfOk result (λ f. IsFormula text f.variables (plain_clauses f.clauses))
  result_found is = by_ok result is

  by_err : (number : ℕ) → number ≡ length (lines_of text) → 0 < length (lines_of text) → (r : Result Formula FormulaError) → IfErr r (HasEndCause problem body number) → IfErr r (HasCause text)
  by_err number numbered some (Ok f) cause = tt
  by_err number numbered some (Err e) cause = ended text number numbered some problem body e all_read cause

  pub result_refused : (number : ℕ) → number ≡ length lines → 0 < length (lines_of text) → IfErr result (HasEndCause problem body number) → IfErr result (HasCause text)
  result_refused number numbered some cause = by_err number (numbered ∙ ap length whole) some result cause
