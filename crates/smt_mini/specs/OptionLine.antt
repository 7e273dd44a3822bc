-- The parts of the first command of a script, which declares the datatype Option.
use Rattle.std.specs.Prelude.{codes, List, [], ◌∷◌}
use Rattle.law_texts.specs.Reading.{Expression}
use Rattle.law_scripts.specs.Script.{group, name}

-- `(val X)`, the selector with its sort
abbrev pub selector : Expression
selector = group (name (codes "val") ∷ name (codes "X") ∷ [])

-- `(some (val X))`, the constructor with the selector
abbrev pub some_constructor : Expression
some_constructor = group (name (codes "some") ∷ selector ∷ [])

-- `((none) (some (val X)))`, the constructors
abbrev pub constructors : Expression
constructors = group (group (name (codes "none") ∷ []) ∷ some_constructor ∷ [])

-- `(X) ((none) (some (val X)))`, the parameter in brackets and the constructors
abbrev pub parameters : List Expression
parameters = group (name (codes "X") ∷ []) ∷ constructors ∷ []

-- `(par (X) ((none) (some (val X))))`, the parameter and the constructors
abbrev pub body : Expression
body = group (name (codes "par") ∷ parameters)
