use Rattle.std.proofs.Common.{◌≡◌, ℤ, pos, ap, ◌∙◌, w32, w64, FitsSigned, rules}
use Rattle.std.specs.Prelude.{◌*ℤ◌, ◌+ℤ◌}
use Rattle.std.proofs.lemmas.Int.{to_z-of_z}
use Rattle.smt_ext.proofs.Datetimes.{product_fits, total_fits}
use Rattle.smt_ext.proofs.datetime.moment.moment_of.Goals as goal

pub overflow_add-result : goal.overflow_add-result
overflow_add-result c =
    let d = c.in_ok-day_number.field-0 in
    let f : FitsSigned w32 d = search rules in
    let e : c.from-day.result ≡ d = c.from-day.ensures ∙ to_z-of_z w32 d f in
    let g : FitsSigned w64 c.from-day.result = search rules in
    let m : FitsSigned w64 c.milliseconds_of.result = search rules in
    let p : FitsSigned w64 (c.from-day.result *ℤ pos 86400000) = rw e (product_fits d f) in
    rw (to_z-of_z w64 c.from-day.result g) (rw (to_z-of_z w64 (c.from-day.result *ℤ pos 86400000) p) (rw (to_z-of_z w64 c.milliseconds_of.result m) (rw e (total_fits d c.milliseconds_of.result f c.milliseconds_of.ensures.least c.milliseconds_of.ensures.most))))

pub returns-clause-value : goal.returns-clause-value
returns-clause-value c =
    let d = c.in_ok-day_number.field-0 in
    let f : FitsSigned w32 d = search rules in
    let e : c.from-day.result ≡ d = c.from-day.ensures ∙ to_z-of_z w32 d f in
    let g : FitsSigned w64 c.from-day.result = search rules in
    let m : FitsSigned w64 c.milliseconds_of.result = search rules in
    let p : FitsSigned w64 (c.from-day.result *ℤ pos 86400000) = rw e (product_fits d f) in
    let t : FitsSigned w64 (c.from-day.result *ℤ pos 86400000 +ℤ c.milliseconds_of.result) = rw e (total_fits d c.milliseconds_of.result f c.milliseconds_of.ensures.least c.milliseconds_of.ensures.most) in
    rw (to_z-of_z w64 c.from-day.result g) (rw (to_z-of_z w64 (c.from-day.result *ℤ pos 86400000) p) (rw (to_z-of_z w64 c.milliseconds_of.result m) (rw (to_z-of_z w64 (c.from-day.result *ℤ pos 86400000 +ℤ c.milliseconds_of.result) t) (
    record {
      day = d;
      is_day = c.in_ok-day_number.ensures.number;
      number = ap (λ (n : ℤ). n *ℤ pos 86400000 +ℤ c.milliseconds_of.result) e ∙ ap (λ (n : ℤ). d *ℤ pos 86400000 +ℤ n) c.milliseconds_of.ensures.value;
    }
    ))))
