-- What the fields of what is known hold.
use Rattle.msspot_read.specs.declared.known.Known.TheInside.{Inside}
use Rattle.msspot_read.specs.declared.entries.Form.TheVariants as forms
use Rattle.msspot_read.specs.Marked.{MarksForm, HasTexts}

pub record IsKnown (k : Inside) : Type 0 where
  pub texts : HasTexts k.parts.now
  pub names : MarksForm k.parts.now 0 forms.Name k.names.words
  pub types : MarksForm k.parts.now 1 forms.Type k.types.words
  pub arrays : MarksForm k.parts.now 1 forms.Array k.arrays.words
  pub methods : MarksForm k.parts.now 1 forms.Method k.methods.words
  pub locals : MarksForm k.parts.now 1 forms.Locals k.locals.words
