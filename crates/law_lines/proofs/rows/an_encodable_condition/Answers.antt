use Rattle.std.proofs.Common.{refl}
use Rattle.law_terms.specs.Plain.{IpAddrKind, DatetimeKind, ExtensionType, StringType, attribute, no_attributes}
use Rattle.std.specs.Prelude.{codes}
use Rattle.law_lines.proofs.rows.an_encodable_condition.Goals as goal

pub returns : goal.returns
returns c = (
  (
    tt,
    (
      (
        tt,
        (((tt, (tt, (tt, tt))), (tt, tt), (tt, (tt, (tt, (tt, tt)))), tt), tt),
        (attribute (codes "dept") StringType (attribute (codes "joined") (ExtensionType DatetimeKind) (attribute (codes "src") (ExtensionType IpAddrKind) no_attributes)), refl, refl),
        tt,
      ),
      tt,
    ),
    (tt, refl),
    tt,
  ),
  tt,
)
