-- Lines that are appended in parts.
use Rattle.std.proofs.Common.{◌≡◌, ◌≢◌, ℕ, ◌+◌, ◌-◌, ◌<◌, List, [], ◌∷◌, ◌++◌, length, OnSome, Option, None, Some, Ok, refl, sym, append_assoc, length-append, arith}
use Rattle.std.proofs.lemmas.List.Elements.{All-append}
use Rattle.std.proofs.KnownBytes.{Consumes-kept, Consumes-nil, Consumes-trans}
use Rattle.std.proofs.lemmas.List.{append-nil}
use Rattle.std.specs.Io.KnownBytes.{Consumes, IsAtEnd, Keeps}
use Rattle.smt_solve.specs.Link.{EndsAs, HasNoLineFeed}
use Rattle.smt_solve.specs.declared.link.LineEnd.{LineEnd}
use Rattle.smt_solve.specs.declared.link.LineEnd.TheVariants.{Line, End, TooLong}
use Rattle.smt_solve.specs.Line.{AppendsLine, AppendsStep, StepsAs}
use Rattle.smt_solve.specs.declared.child_line.Step.{Step}
use Rattle.smt_solve.specs.declared.child_line.Step.TheVariants.{More, Ended}

-- A part of a line was appended, of a reader that had `left` and has `left'`, and there is room for `room` bytes of `limit`.
pub record HasPart (left left' : Option (List ℕ)) (before now : List ℕ) (limit room : ℕ) : Type 0 where
  pub piece : List ℕ
  pub appended : now ≡ before ++ piece
  pub none : HasNoLineFeed piece
  pub taken : Consumes left left' piece
  pub long : length piece + room ≡ limit

joins : (before now after p q : List ℕ) → now ≡ before ++ p → after ≡ now ++ q → after ≡ before ++ (p ++ q)
joins before now after p q h k = rw (k, h) (append_assoc before p q)

none_in_both : (p q : List ℕ) → HasNoLineFeed p → HasNoLineFeed q → HasNoLineFeed (p ++ q)
none_in_both p q = All-append (λ b. b ≢ 10) p q

ends_whole : (end : LineEnd) (p q : List ℕ) (limit room : ℕ) → HasNoLineFeed p → length p + room ≡ limit → EndsAs end q room None → EndsAs end (p ++ q) limit None
ends_whole Line p q limit room none long ((body, free, whole), short) =
    ((p ++ body, none_in_both p body none free, rw whole (sym (append_assoc p body (10 ∷ [])))), omega (arith, long, short, length-append p q))
ends_whole End p q limit room none long (free, short, t) =
    (none_in_both p q none free, omega (arith, long, short, length-append p q), tt)
ends_whole TooLong p q limit room none long (free, full) =
    (none_in_both p q none free, omega (arith, long, full, length-append p q))

-- Of the end, where the bytes were told at first.
still_at_end : (a b c : Option (List ℕ)) (p : List ℕ) → Consumes a b p → OnSome b (IsAtEnd c) → OnSome a (IsAtEnd c)
still_at_end None b c p taken h = tt
still_at_end (Some x) None c p taken h = absurd taken
still_at_end (Some x) (Some y) c p taken h = h

-- A step appended more of it.
pub grows_part : {E : Type 0} (a b c : Option (List ℕ)) (before now after : List ℕ) (limit room : ℕ) (step : Step) (count : ℕ) → step ≡ More count → HasPart a b before now limit room
    → AppendsStep {E = E} b c now after room (Ok step) → HasPart a c before after limit (room - count)
grows_part a b c before now after limit room step count is h k =
    let came : StepsAs (More count) k.piece room = rw is at k.came in
    record {
      piece = h.piece ++ k.piece;
      appended = joins before now after h.piece k.piece h.appended k.appended;
      none = none_in_both h.piece k.piece h.none came.0;
      taken = Consumes-trans a b c h.piece k.piece h.taken k.taken;
      long = omega (arith, h.long, came.1, came.2, length-append h.piece k.piece);
    }

-- A step ended it.
pub ends_part : {E : Type 0} (a b c : Option (List ℕ)) (before now after : List ℕ) (limit room : ℕ) (step : Step) (end : LineEnd) → step ≡ Ended end → HasPart a b before now limit room
    → AppendsStep {E = E} b c now after room (Ok step) → AppendsLine {E = E} a c before after limit (Ok end)
ends_part a b c before now after limit room step end is h k =
    let came : StepsAs (Ended end) k.piece room = rw is at k.came in
    record {
      piece = h.piece ++ k.piece;
      appended = joins before now after h.piece k.piece h.appended k.appended;
      taken = Consumes-trans a b c h.piece k.piece h.taken k.taken;
      ending = ends_whole end h.piece k.piece limit room h.none h.long came;
      at_end = λ e. still_at_end a b c h.piece h.taken (k.at_end (cc));
    }

-- A step that a signal ended appended nothing, and there is as much room as before.
pub appends_none : {E : Type 0} (left left' : Option (List ℕ)) (before : List ℕ) (room : ℕ) → 0 < room → Keeps left left' → AppendsStep {E = E} left left' before before room (Ok (More 0))
appends_none left left' before room more kept = record {
  piece = [];
  appended = sym (append-nil before);
  taken = Consumes-kept left left left' [] (Consumes-nil left) kept;
  came = (λ k d lt. absurd (omega (arith, lt)), refl, more);
  at_end = λ e. absurd (cc);
}
