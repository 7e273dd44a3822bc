-- That a run is complete: what its status is where nothing failed.
use Rattle.std.proofs.Common.{◌≡◌, ℕ, true, List, [], ◌∷◌, Option, Some, None, refl, sym, ap, ◌∙◌, subst, inl, inr, ⊎_elim}
use Rattle.std.specs.Prelude.{◌⊎◌, IfSome, is_some}
use Rattle.std.proofs.lemmas.Bool.{false≢true}
use Rattle.law_terms.specs.Faults.{first_fault}
use Rattle.law_terms.specs.Plain.{PlainTerm}
use Rattle.law_folding.specs.Built.{built}
use Rattle.law_jobs.proofs.Jobs.{one_job}
use Rattle.law_jobs.specs.Jobs.{PlainJob}
use Rattle.smt_solve.specs.Link.{AllowsTheSame, LinkState}
use Rattle.smt_solve.specs.Starter.{Command as SolverCall, StarterState}
use Rattle.smt_program.specs.declared.words.Asked.{Asked}
use Rattle.smt_program.specs.declared.words.Asked.TheVariants.{Own, Help, Version}
use Rattle.smt_runs.specs.Jobs.{IsNoJob}
use Rattle.smt_runs.specs.Refusal.{status_of}
use Rattle.smt_runs.specs.Runs.{Around, Does, Fails, Knows}
use Rattle.smt_runs.specs.declared.refusal.Refusal.{Refusal}
use Rattle.smt_runs.specs.declared.refusal.Refusal.TheVariants.{Job, NotTwo, Encode, Source, Sink, Start, Session, Memory}
use Rattle.smt_runs.proofs.Ending.{put_refused}
use Rattle.smt_runs.proofs.Reading.{is_fault, not_refused}
use Rattle.smt_runs.proofs.Told.{of_told}
use Rattle.smt_review.proofs.Pairing.{none_some, same_pair}
use Rattle.smt_review.specs.Pairs.{IsFaultlessPair, IsFaultyPair, IsNoPair, IsPair, fault_between, pair_of}
use Rattle.smt_review.specs.Reviews.{difference_of}
use Rattle.smt_review.specs.Causes.{WhyNotDone, WhyNotReviewed}
use Rattle.smt_review.specs.Run.{IsComplete, IsDone, ReviewsPair}
use Rattle.smt_runs.specs.Runs.{StartFailed}
use Rattle.smt_review.specs.declared.command.Command.{Command}
use Rattle.smt_review.specs.declared.command.Command.TheVariants.{Review}
use Rattle.smt_review.specs.declared.relation.Relation.{Relation}

-- ---- one pair

-- bytes are a pair or not
not_both : (bytes : List ℕ) → IsPair bytes → IsNoPair bytes → ⊥
not_both bytes p n = none_some (p.first, p.second) (sym n.2 ∙ ap (λ (j : PlainJob). pair_of j.steps) (one_job bytes n.0 p.job n.1 p.is_job) ∙ p.two)

-- and they are one pair
one_fault : (bytes : List ℕ) (r : Relation) (p q : IsPair bytes) → fault_between r p ≡ fault_between r q
one_fault bytes r p q =
    let jobs : p.job ≡ q.job = one_job bytes p.job q.job p.is_job q.is_job in
    let e : ◌≡◌ {A = Option (PlainTerm × PlainTerm)} (Some (p.first, p.second)) (Some (q.first, q.second)) = sym p.two ∙ ap (λ (j : PlainJob). pair_of j.steps) jobs ∙ q.two in
    let terms : ◌≡◌ {A = PlainTerm × PlainTerm} (p.first, p.second) (q.first, q.second) = same_pair p.first p.second q.first q.second e in
    ap (λ (j : PlainJob). first_fault j.enums (difference_of r (built p.first) (built p.second) ∷ [])) jobs
    ∙ ap (λ (x : PlainTerm × PlainTerm). first_fault q.job.enums (difference_of r (built x.0) (built x.1) ∷ [])) terms

-- a difference has a fault or not
not_faulty : (bytes : List ℕ) (r : Relation) (p q : IsPair bytes) → fault_between r p ≡ None → is_some (fault_between r q) ≡ true → ⊥
not_faulty bytes r p q none some = false≢true (sym (ap is_some none) ∙ ap is_some (one_fault bytes r p q) ∙ some)

module _ {L : Type 0} (state : L → LinkState) (call : SolverCall) (before after : Around (StarterState L)) (source_failed sink_failed : Type 0) where
  -- what stood before, with this left in the source
  abbrev leaving : Option (List ℕ) → Around (StarterState L)
  leaving left = record before { left = left }

  -- the starter failed
  abbrev Unstarted : Type 0
  Unstarted = StartFailed before.beside after.beside

  module _ (k : Relation) where
    -- a job of two terms is not reviewed for want of memory, or because its session failed
    reviewed : (left : Option (List ℕ)) (r : Refusal) → Fails source_failed sink_failed r → WhyNotReviewed state call k (leaving left) after r → ¬ source_failed → ¬ sink_failed → ¬ Unstarted → IfSome left (λ bytes. IsFaultlessPair k bytes → (status_of r ≡ 0) ⊎ ((status_of r ≡ 7) ⊎ (status_of r ≡ 8)))
    reviewed None r f h given taken started = tt
    reviewed (Some bytes) (Job kind) f h given taken started = λ j. absurd (not_refused bytes kind (j.0.job, j.0.is_job) h.0)
    reviewed (Some bytes) NotTwo f h given taken started = λ j. absurd (not_both bytes j.0 h.0)
    reviewed (Some bytes) (Encode kind) f h given taken started = λ j. absurd (not_faulty bytes k j.0 h.0.0 j.1 (is_fault kind (fault_between k h.0.0) h.0.1.0))
    reviewed (Some bytes) Source f h given taken started = absurd (given f)
    reviewed (Some bytes) Sink f h given taken started = absurd (taken f)
    reviewed (Some bytes) Start f h given taken started = absurd (started h.0)
    reviewed (Some bytes) (Session kind) f h given taken started = λ j. inr (inr refl)
    reviewed (Some bytes) Memory f h given taken started = λ j. inr (inl refl)
    reviewed (Some bytes) r f h given taken started = absurd h

    -- where their difference has a fault it is refused by the encoder
    unwritten : (left : Option (List ℕ)) (r : Refusal) → Fails source_failed sink_failed r → WhyNotReviewed state call k (leaving left) after r → ¬ source_failed → ¬ sink_failed → ¬ Unstarted → IfSome left (λ bytes. IsFaultyPair k bytes → (status_of r ≡ 4) ⊎ ((status_of r ≡ 7) ⊎ (status_of r ≡ 8)))
    unwritten None r f h given taken started = tt
    unwritten (Some bytes) (Job kind) f h given taken started = λ j. absurd (not_refused bytes kind (j.0.job, j.0.is_job) h.0)
    unwritten (Some bytes) NotTwo f h given taken started = λ j. absurd (not_both bytes j.0 h.0)
    unwritten (Some bytes) (Encode kind) f h given taken started = λ j. inl refl
    unwritten (Some bytes) Source f h given taken started = absurd (given f)
    unwritten (Some bytes) Sink f h given taken started = absurd (taken f)
    unwritten (Some bytes) Start f h given taken started = absurd (started h.0)
    unwritten (Some bytes) (Session kind) f h given taken started = λ j. inr (inr refl)
    unwritten (Some bytes) Memory f h given taken started = λ j. inr (inl refl)
    unwritten (Some bytes) r f h given taken started = absurd h

    -- another job is refused as such
    not_two : (left : Option (List ℕ)) (r : Refusal) → Fails source_failed sink_failed r → WhyNotReviewed state call k (leaving left) after r → ¬ source_failed → IfSome left (λ bytes. IsNoPair bytes → (status_of r ≡ 3) ⊎ (status_of r ≡ 7))
    not_two None r f h given = tt
    not_two (Some bytes) (Job kind) f h given = λ n. inl refl
    not_two (Some bytes) NotTwo f h given = λ n. inl refl
    not_two (Some bytes) (Encode kind) f h given = λ n. absurd (not_both bytes h.0.0 n)
    not_two (Some bytes) Source f h given = absurd (given f)
    not_two (Some bytes) Sink f h given = λ n. absurd (not_both bytes h n)
    not_two (Some bytes) Start f h given = λ n. absurd (not_both bytes h.1 n)
    not_two (Some bytes) (Session kind) f h given = λ n. absurd (not_both bytes h.0.0 n)
    not_two (Some bytes) Memory f h given = λ n. inr refl
    not_two (Some bytes) r f h given = absurd h

    -- and so is what is no job
    rejected : (left : Option (List ℕ)) (r : Refusal) → Fails source_failed sink_failed r → WhyNotReviewed state call k (leaving left) after r → ¬ source_failed → IfSome left (λ bytes. IsNoJob bytes → (status_of r ≡ 3) ⊎ (status_of r ≡ 7))
    rejected None r f h given = tt
    rejected (Some bytes) (Job kind) f h given = λ n. inl refl
    rejected (Some bytes) NotTwo f h given = λ n. inl refl
    rejected (Some bytes) (Encode kind) f h given = λ n. absurd (n h.0.0.job h.0.0.is_job)
    rejected (Some bytes) Source f h given = absurd (given f)
    rejected (Some bytes) Sink f h given = λ n. absurd (n h.job h.is_job)
    rejected (Some bytes) Start f h given = λ n. absurd (n h.1.job h.1.is_job)
    rejected (Some bytes) (Session kind) f h given = λ n. absurd (n h.0.0.job h.0.0.is_job)
    rejected (Some bytes) Memory f h given = λ n. inr refl
    rejected (Some bytes) r f h given = absurd h

  -- the relation that was asked for
  same_relation : (k m : Relation) → ◌≡◌ {A = Option (Asked Command)} (Some (Own (Review k))) (Some (Own (Review m))) → k ≡ m
  same_relation k m e = cc

  -- nothing is said of reviews where none is asked for
  other_complete : (asked : Option (Asked Command)) (status : ℕ) → ((k : Relation) → asked ≡ Some (Own (Review k)) → ⊥) → ((asked ≡ Some Help) ⊎ (asked ≡ Some Version) → ¬ sink_failed → (status ≡ 0) ⊎ (status ≡ 7)) → IsComplete asked before.left source_failed sink_failed Unstarted status
  other_complete asked status other printed = record {
    reviewed = λ m p. absurd (other m p);
    unwritten = λ m p. absurd (other m p);
    not_two = λ m p. absurd (other m p);
    rejected = λ m p. absurd (other m p);
    printed = printed;
  }

  pub refused_complete : (asked : Option (Asked Command)) (r : Refusal) → Fails source_failed sink_failed r → Knows before after (WhyNotDone state call) asked r → IsComplete asked before.left source_failed sink_failed Unstarted (status_of r)
  refused_complete (Some (Own (Review k))) r f h = record {
    reviewed = λ m p given taken started. subst (λ (x : Relation). IfSome before.left (λ bytes. IsFaultlessPair x bytes → (status_of r ≡ 0) ⊎ ((status_of r ≡ 7) ⊎ (status_of r ≡ 8)))) (same_relation k m p) (reviewed k before.left r f h given taken started);
    unwritten = λ m p given taken started. subst (λ (x : Relation). IfSome before.left (λ bytes. IsFaultyPair x bytes → (status_of r ≡ 4) ⊎ ((status_of r ≡ 7) ⊎ (status_of r ≡ 8)))) (same_relation k m p) (unwritten k before.left r f h given taken started);
    not_two = λ m p given. not_two k before.left r f h given;
    rejected = λ m p given. rejected k before.left r f h given;
    printed = λ p taken. absurd (⊎_elim (λ q. cc) (λ q. cc) p);
  }
  refused_complete (Some Help) r f h = other_complete (Some Help) (status_of r) (λ k p. cc) (λ p taken. put_refused source_failed sink_failed r f h taken)
  refused_complete (Some Version) r f h = other_complete (Some Version) (status_of r) (λ k p. cc) (λ p taken. put_refused source_failed sink_failed r f h taken)
  refused_complete None r f h = absurd h

  -- words that are no command are said to be none
  pub misused_complete : (asked : Option (Asked Command)) (status : ℕ) → asked ≡ None → IsComplete asked before.left source_failed sink_failed Unstarted status
  misused_complete None status none = other_complete None status (λ k p. cc) (λ p taken. absurd (⊎_elim (λ q. cc) (λ q. cc) p))
  misused_complete (Some x) status none = absurd cc

  -- ---- what is done

  module _ (allows : L → List ℕ → List ℕ → List ℕ → Type 0) (allowed : List ℕ → List ℕ → List ℕ → Type 0) where
    -- what is done is a review of a pair by the relation that was asked for
    was_pair : (m : Relation) (P : List ℕ → Type 0) → ((bytes : List ℕ) → ReviewsPair state allows allowed call m before after bytes → P bytes) → (asked : Option (Asked Command)) → Does before after (IsDone state allows allowed call) asked → asked ≡ Some (Own (Review m)) → IfSome before.left P
    was_pair m P so (Some (Own (Review k))) d p =
        of_told (ReviewsPair state allows allowed call m before after) P before.left so
        (subst (λ (x : Relation). IfSome before.left (ReviewsPair state allows allowed call x before after)) (same_relation k m p) d.holds)
    was_pair m P so (Some Help) d p = absurd cc
    was_pair m P so (Some Version) d p = absurd cc
    was_pair m P so None d p = absurd d

    pub done_complete : (asked : Option (Asked Command)) (status : ℕ) → Does before after (IsDone state allows allowed call) asked → (¬ sink_failed → (status ≡ 0) ⊎ (status ≡ 7)) → IsComplete asked before.left source_failed sink_failed Unstarted status
    done_complete asked status d good = record {
      reviewed = λ m p given taken started. was_pair m (λ bytes. IsFaultlessPair m bytes → (status ≡ 0) ⊎ ((status ≡ 7) ⊎ (status ≡ 8))) (λ bytes x j. ⊎_elim (λ q. inl q) (λ q. inr (inl q)) (good taken)) asked d p;
      unwritten = λ m p given taken started. was_pair m (λ bytes. IsFaultyPair m bytes → (status ≡ 4) ⊎ ((status ≡ 7) ⊎ (status ≡ 8))) (λ bytes x j. absurd (not_faulty bytes m x.pair j.0 x.reviews.of_link.askable.have_no_fault j.1)) asked d p;
      not_two = λ m p given. was_pair m (λ bytes. IsNoPair bytes → (status ≡ 3) ⊎ (status ≡ 7)) (λ bytes x n. absurd (not_both bytes x.pair n)) asked d p;
      rejected = λ m p given. was_pair m (λ bytes. IsNoJob bytes → (status ≡ 3) ⊎ (status ≡ 7)) (λ bytes x n. absurd (n x.pair.job x.pair.is_job)) asked d p;
      printed = λ p taken. good taken;
    }

-- ---- what stays

-- what a starter allows stays as it was
pub kept_allows : {P : Type 0} (allows : P → List ℕ → List ℕ → List ℕ → Type 0) (old new : P) → AllowsTheSame (allows old) (allows new) ⊎ (new ≡ old) → AllowsTheSame (allows old) (allows new)
kept_allows allows old new (inl kept) = kept
kept_allows {P} allows old new (inr same) = subst (λ (now : P). AllowsTheSame (allows old) (allows now)) (sym same) (record { there = λ text earlier line h. h; back = λ text earlier line h. h })
