-- Bytes that are taken one after the other, and what a sink holds behind them.
use Rattle.std.proofs.Common.{ℕ, List, [], ◌∷◌, ◌++◌, Option, refl, sym, subst, append_assoc}
use Rattle.smt_script.proofs.PutsLemmas.{appends_nothing, appends_then}
use Rattle.law_verdicts.specs.Streams.{Standing, TakesAll}
use Rattle.smt_stream.specs.Runs.{Says}

pub takes_then : (first mid last : Standing) (xs ys o p : List ℕ) → TakesAll first xs o mid → TakesAll mid ys p last → TakesAll first (xs ++ ys) (o ++ p) last
takes_then first mid last [] ys o p h t = subst (λ x. TakesAll x ys (o ++ p) last) h.1 (subst (λ x. TakesAll mid ys (x ++ p) last) (sym h.0) t)
takes_then first mid last (x ∷ xs) ys o p h t =
    (h.0, h.1 ++ p, h.2, h.3, takes_then h.2 mid last xs ys h.1 p h.4 t, rw (h.5, append_assoc))

pub says_nothing : (first : Standing) (a : Option (List ℕ)) → Says first [] a a first
says_nothing first a = ([], (refl, refl), appends_nothing a)

pub says_then : (first mid last : Standing) (xs ys : List ℕ) (a b c : Option (List ℕ)) → Says first xs a b mid → Says mid ys b c last → Says first (xs ++ ys) a c last
says_then first mid last xs ys a b c h t = (h.0 ++ t.0, takes_then first mid last xs ys h.0 t.0 h.1 t.1, appends_then a b c h.0 t.0 h.2 t.2)

-- What is said from here on is said from the start on, with all bytes.
abbrev pub GoesOn : (first mid : Standing) (all rest : List ℕ) (before now : Option (List ℕ)) → Type 0
GoesOn first mid all rest before now = (after : Option (List ℕ)) (last : Standing) → Says mid rest now after last → Says first all before after last

pub goes_further : (first mid next : Standing) (all more : List ℕ) (b : ℕ) (before now later : Option (List ℕ)) → GoesOn first mid all (b ∷ more) before now → Says mid (b ∷ []) now later next → GoesOn first next all more before later
goes_further first mid next all more b before now later g s after last h = g after last (says_then mid next last (b ∷ []) more now later after s h)
