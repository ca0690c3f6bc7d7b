-- A label's format as the code has it.
-- Assumes nothing.
use Rattle.std.specs.Prelude.{◌≡◌, refl}
use Rattle.standard.specs.Labels.{Format, fixed, variable, spanned}
use Rattle.labels.specs.declared.Form.{Form}
use Rattle.labels.specs.declared.Form.TheVariants.{Fixed, Variable, Spanned}

-- "40 space or F (fixed), V, S"
abbrev pub form_in : Format → Form
form_in fixed = Fixed
form_in variable = Variable
form_in spanned = Spanned

abbrev pub format_for : Form → Format
format_for Fixed = fixed
format_for Variable = variable
format_for Spanned = spanned

pub format_back : (f : Format) → format_for (form_in f) ≡ f
format_back fixed = refl
format_back variable = refl
format_back spanned = refl
