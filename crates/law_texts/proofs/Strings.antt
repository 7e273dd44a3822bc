-- The text of a string, read run by run up to its closing quote.
use Rattle.std.proofs.Common.{ap₂, inl, inr, ◌≡◌, ℕ, Bool, true, not, eqb, List, [], ◌∷◌, ◌++◌, refl, sym, ap, ◌∙◌, append_assoc}
use Rattle.std.specs.List.{flat_map, list_all}
use Rattle.std.proofs.lemmas.Bool.{and_parts, and_right, false≢true, cases_Bool, eq-eqb, eqb-true, not-true, not_from_false}
use Rattle.std.proofs.lemmas.List.Folds.{list_all-append}
use Rattle.std.proofs.lemmas.List.Concat.{flat_map-append}
use Rattle.law_texts.specs.Lexicon.{Quoted, quote_twice, stops}
use Rattle.law_texts.specs.Reads.{IsQuoted}
use Rattle.law_texts.specs.Front.{begins_without, IsRun}
use Rattle.law_texts.proofs.Runs.{head_is}
use Rattle.law_texts.proofs.Unique.{not_sooner, twice_quote, twice_other}

abbrev pub is_no_quote : ℕ → Bool
is_no_quote b = not (eqb b 34)

-- where no quote is, nothing is written twice
pub twice_none : (run : List ℕ) → list_all is_no_quote run ≡ true → flat_map quote_twice run ≡ run
twice_none [] h = refl
twice_none (b ∷ bs) h =
    let p = and_parts (is_no_quote b) (list_all is_no_quote bs) h in
    rw (not-true (eqb b 34) p.0) (ap (λ (v : List ℕ). b ∷ v) (twice_none bs p.1))

-- the bytes behind what is read, with one more run read
one_run_more : (src text rest run quote : List ℕ) → src ≡ flat_map quote_twice text ++ rest → IsRun is_no_quote rest run quote → src ≡ flat_map quote_twice (text ++ run) ++ quote
one_run_more src text rest run quote e r =
    e
    ∙ ap (λ v. flat_map quote_twice text ++ v) (r.whole ∙ ap (λ v. v ++ quote) (sym (twice_none run r.each)))
    ∙ sym (append_assoc (flat_map quote_twice text) (flat_map quote_twice run) quote)
    ∙ ap (λ v. v ++ quote) (sym (flat_map-append quote_twice text run))

-- behind a doubled quote
pub quoted_more : (src text text' text'' rest run quote after more : List ℕ) → src ≡ flat_map quote_twice text ++ rest → IsRun is_no_quote rest run quote → quote ≡ 34 ∷ after → after ≡ 34 ∷ more → text' ≡ text ++ run → text'' ≡ text' ++ 34 ∷ [] → src ≡ flat_map quote_twice text'' ++ more
quoted_more src text text' text'' rest run quote after more e r q a f g =
    one_run_more src text rest run quote e r
    ∙ ap (λ v. flat_map quote_twice (text ++ run) ++ v) (q ∙ ap (λ (v : List ℕ). 34 ∷ v) a)
    ∙ sym (append_assoc (flat_map quote_twice (text ++ run)) (34 ∷ 34 ∷ []) more)
    ∙ ap (λ v. v ++ more) (sym (flat_map-append quote_twice (text ++ run) (34 ∷ [])) ∙ ap (flat_map quote_twice) (sym (g ∙ ap (λ v. v ++ 34 ∷ []) f)))

closed_from : (after : List ℕ) → ((more : List ℕ) → after ≡ 34 ∷ more → ⊥) → begins_without (λ b. eqb b 34) after ≡ true
closed_from [] h = refl
closed_from (b ∷ bs) h = elim (cases_Bool (eqb b 34)) [
  | inl e ↦ absurd (h bs (ap (λ (v : ℕ). v ∷ bs) (eqb-true b 34 e)))
  | inr e ↦ not_from_false (eqb b 34) e
]

stops_from : (text rest : List ℕ) → begins_without (λ b. eqb b 34) rest ≡ true → stops (Quoted text) rest ≡ true
stops_from text [] h = refl
stops_from text (b ∷ bs) h = h

ends_from : (text rest : List ℕ) → stops (Quoted text) rest ≡ true → begins_without (λ b. eqb b 34) rest ≡ true
ends_from text [] h = refl
ends_from text (b ∷ bs) h = h

-- at the closing quote
pub quoted_ends : (src text text' rest run quote after : List ℕ) → src ≡ flat_map quote_twice text ++ rest → IsRun is_no_quote rest run quote → quote ≡ 34 ∷ after → ((more : List ℕ) → after ≡ 34 ∷ more → ⊥) → text' ≡ text ++ run → IsQuoted src text' after
quoted_ends src text text' rest run quote after e r q n f = record {
  spelled = one_run_more src text rest run quote e r ∙ ap₂ (λ v w. flat_map quote_twice v ++ w) (sym f) q;
  closed = stops_from text' after (closed_from after n);
}

-- no string ends where only a run is left
no_end : (text run other rest : List ℕ) → list_all is_no_quote run ≡ true → begins_without (λ b. eqb b 34) rest ≡ true → flat_map quote_twice text ++ run ≡ flat_map quote_twice other ++ (34 ∷ rest) → ⊥
no_end [] run other rest h s e =
    false≢true (sym (and_right (list_all is_no_quote (flat_map quote_twice other)) (list_all is_no_quote (34 ∷ rest)) refl) ∙ sym (list_all-append is_no_quote (flat_map quote_twice other) (34 ∷ rest)) ∙ ap (list_all is_no_quote) (sym e) ∙ h)
no_end (x ∷ xs) run [] rest h s e = not_sooner x xs rest run s (sym e)
no_end (x ∷ xs) run (y ∷ ys) rest h s e =
    let u = flat_map quote_twice xs ++ run in
    let v = flat_map quote_twice ys ++ (34 ∷ rest) in
    elim (cases_Bool (eqb x 34)) [
      | inl p ↦ elim (cases_Bool (eqb y 34)) [
        | inl q ↦ no_end xs run ys rest h s (head_is 34 34 u v (head_is 34 34 (34 ∷ u) (34 ∷ v) (sym (twice_quote x xs run p) ∙ e ∙ twice_quote y ys (34 ∷ rest) q)).1).1
        | inr q ↦ false≢true (sym q ∙ eq-eqb y 34 (sym (head_is 34 y (34 ∷ u) v (sym (twice_quote x xs run p) ∙ e ∙ twice_other y ys (34 ∷ rest) q)).0))
      ]
      | inr p ↦ elim (cases_Bool (eqb y 34)) [
        | inl q ↦ false≢true (sym p ∙ eq-eqb x 34 (head_is x 34 u (34 ∷ v) (sym (twice_other x xs run p) ∙ e ∙ twice_quote y ys (34 ∷ rest) q)).0)
        | inr q ↦ no_end xs run ys rest h s (head_is x y u v (sym (twice_other x xs run p) ∙ e ∙ twice_other y ys (34 ∷ rest) q)).1
      ]
    ]

-- a run ends at a quote, or with the text
run_to_end : (rest run quote : List ℕ) → IsRun is_no_quote rest run quote → ((after : List ℕ) → quote ≡ 34 ∷ after → ⊥) → quote ≡ []
run_to_end rest run [] r h = refl
run_to_end rest run (b ∷ bs) r h = elim (cases_Bool (eqb b 34)) [
  | inl e ↦ absurd (h bs (ap (λ (v : ℕ). v ∷ bs) (eqb-true b 34 e)))
  | inr e ↦ absurd (false≢true (ap (λ t. not (not t)) (sym e) ∙ r.longest))
]

-- where no quote is left, there is no string
pub quoted_none : (src text rest run quote : List ℕ) → src ≡ flat_map quote_twice text ++ rest → IsRun is_no_quote rest run quote → ((after : List ℕ) → quote ≡ 34 ∷ after → ⊥) → (other end : List ℕ) → IsQuoted src other end → ⊥
quoted_none src text rest run quote e r h other end q =
    no_end (text ++ run) [] other end refl (ends_from other end q.closed)
    (ap (λ v. flat_map quote_twice (text ++ run) ++ v) (sym (run_to_end rest run quote r h)) ∙ sym (one_run_more src text rest run quote e r) ∙ q.spelled)
