-- How far truths are spelled, at one more word.
use Rattle.std.proofs.Common.{◌≡◌, ◌∙◌, ◌+◌, ◌<◌, ◌≤◌, ℕ, zero, suc, Result, Ok, Err, List, [], ◌∷◌, ◌++◌, add-zero, ap, append-nil, append_assoc, arith, length, length-append, map, refl, subst, sym}
use Rattle.std.specs.List.{AllByRecursion, flat_map, range_with_len}
use Rattle.std.specs.Prelude.{OnOk, codes}
use Rattle.std.proofs.lemmas.Grind.{flat_map-append}
use Rattle.std.proofs.lemmas.List.{map-append}
use Rattle.law_clauses.specs.Clauses.{Truths}
use Rattle.smt_sat_run.specs.Spelled.{HasSpelled}
use Rattle.smt_sat_run.specs.Values.{IsShort, SpellsTruths, begun_line, value_line, value_words}
use Rattle.smt_sat_run.specs.declared.value_lines.ValueLines.{ValueLines}

all_push : {X : Type 0} (P : X → Type 0) (xs : List X) (x : X) → AllByRecursion P xs → P x → AllByRecursion P (xs ++ x ∷ [])
all_push P [] x h p = (p, tt)
all_push P (y ∷ xs) x h p = (h.0, all_push P xs x h.1 p)

-- a line more
lines_more : (ended : List (List (List ℕ))) (line : List (List ℕ)) → flat_map value_line (ended ++ line ∷ []) ≡ flat_map value_line ended ++ value_line line
lines_more ended line = flat_map-append value_line ended (line ∷ []) ∙ ap (λ (l : List ℕ). flat_map value_line ended ++ l) (append-nil (value_line line))

words_more : (ended : List (List (List ℕ))) (line : List (List ℕ)) → flat_map (λ words. words) (ended ++ line ∷ []) ≡ flat_map (λ words. words) ended ++ line
words_more ended line = flat_map-append (λ words. words) ended (line ∷ []) ∙ ap (λ (l : List (List ℕ)). flat_map (λ words. words) ended ++ l) (append-nil line)

-- a word more in a line
begun_more : (line : List (List ℕ)) (word : List ℕ) → begun_line (line ++ word ∷ []) ≡ begun_line line ++ (codes " " ++ word)
begun_more line word =
    ap (λ (l : List ℕ). codes "v" ++ l) (flat_map-append (λ w. codes " " ++ w) line (word ∷ []) ∙ ap (λ (l : List ℕ). flat_map (λ w. codes " " ++ w) line ++ l) (append-nil (codes " " ++ word)))

module _ (old new : ValueLines) (words : List (List ℕ)) (h : HasSpelled old words) where
  spelled_length : length old.text.items ≡ old.start + length (begun_line h.line)
  spelled_length = ap length h.text_is ∙ (length-append (flat_map value_line h.ended) (begun_line h.line) ∙ ap (λ (n : ℕ). n + length (begun_line h.line)) (sym h.start_is))

  -- the line is ended, and the next begun
  pub line_ended : new.text.items ≡ old.text.items ++ codes "\nv" → new.start ≡ length old.text.items + 1 → HasSpelled new words
  line_ended text start =
      let front = flat_map value_line h.ended in
      let whole : old.text.items ++ codes "\n" ≡ flat_map value_line (h.ended ++ h.line ∷ []) = ap (λ (l : List ℕ). l ++ codes "\n") h.text_is ∙ (append_assoc front (begun_line h.line) (codes "\n") ∙ sym (lines_more h.ended h.line)) in
      record {
        ended = h.ended ++ h.line ∷ [];
        line = [];
        text_is = text ∙ (sym (append_assoc old.text.items (codes "\n") (codes "v")) ∙ ap (λ (l : List ℕ). l ++ codes "v") whole);
        start_is = start ∙ (sym (length-append old.text.items (codes "\n")) ∙ ap length whole);
        short = all_push IsShort h.ended h.line h.short h.line_short;
        line_short = omega arith;
        all = append-nil (flat_map (λ ws. ws) (h.ended ++ h.line ∷ [])) ∙ (words_more h.ended h.line ∙ h.all);
      }

  -- a word is put, where there is room for it
  pub word_put : (word : List ℕ) → length old.text.items + length word < old.start + 78 → new.text.items ≡ old.text.items ++ (codes " " ++ word) → new.start ≡ old.start → HasSpelled new (words ++ word ∷ [])
  word_put word room text start =
      let front = flat_map value_line h.ended in
      record {
        ended = h.ended;
        line = h.line ++ word ∷ [];
        text_is = text ∙ (ap (λ (l : List ℕ). l ++ (codes " " ++ word)) h.text_is ∙ (append_assoc front (begun_line h.line) (codes " " ++ word) ∙ ap (λ (l : List ℕ). front ++ l) (sym (begun_more h.line word))));
        start_is = start ∙ h.start_is;
        short = h.short;
        line_short =
            let whole = ap length (begun_more h.line word) in
            omega (arith, whole, length-append (begun_line h.line) (codes " " ++ word), spelled_length, room);
        all = sym (append_assoc (flat_map (λ ws. ws) h.ended) h.line (word ∷ [])) ∙ ap (λ (l : List (List ℕ)). l ++ word ∷ []) h.all;
      }

pub ended_ok : {T E : Type 0} (result : Result T E) (old new : ValueLines) → OnOk result (new.text.items ≡ old.text.items ++ codes "\nv") → OnOk result (new.start ≡ length old.text.items + 1)
    → OnOk result ((words : List (List ℕ)) → HasSpelled old words → HasSpelled new words)
ended_ok (Ok x) old new text start = λ words h. line_ended old new words h text start
ended_ok (Err e) old new text start = tt

-- the last line is ended
pub all_spelled : (v : Truths) (variables : ℕ) (lines : ValueLines) (text : List ℕ) → HasSpelled lines (value_words v variables) → text ≡ lines.text.items ++ codes "\n" → SpellsTruths v variables text
all_spelled v variables lines text h ended =
    record {
      lines = h.ended ++ h.line ∷ [];
      text_is = ended ∙ (ap (λ (l : List ℕ). l ++ codes "\n") h.text_is ∙ (append_assoc (flat_map value_line h.ended) (begun_line h.line) (codes "\n") ∙ sym (lines_more h.ended h.line)));
      short = all_push IsShort h.ended h.line h.short h.line_short;
      words = words_more h.ended h.line ∙ h.all;
    }

-- one number more
range_more : (a n : ℕ) → range_with_len a (suc n) ≡ range_with_len a n ++ (a + n) ∷ []
range_more a zero = ap (λ (k : ℕ). k ∷ []) (sym (add-zero a))
range_more a (suc n) = let same : a + 1 + n ≡ a + suc n = omega arith in ap (λ (l : List ℕ). a ∷ l) (range_more (a + 1) n ∙ ap (λ (k : ℕ). range_with_len (a + 1) n ++ k ∷ []) same)

pub mapped_more : {X : Type 0} (f : ℕ → X) (n : ℕ) → map f (range_with_len 0 (n + 1)) ≡ map f (range_with_len 0 n) ++ f n ∷ []
mapped_more f n =
    let next : n + 1 ≡ suc n = omega arith in
    let same : 0 + n ≡ n = omega arith in
    ap (λ (k : ℕ). map f (range_with_len 0 k)) next ∙ (ap (map f) (range_more 0 n) ∙ (map-append f (range_with_len 0 n) ((0 + n) ∷ []) ∙ ap (λ (k : ℕ). map f (range_with_len 0 n) ++ f k ∷ []) same))
