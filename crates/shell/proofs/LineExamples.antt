-- The options of some command lines, computed from the definition.
use Rattle.std.proofs.Common.{refl, codes, true, false, List, [], ◌∷◌, Some, None, ◌≡◌}
use Rattle.clap.specs.Words.{Text, fault_of, takes}
use Rattle.clap.specs.declared.error.kind.ErrorKind.TheVariants.{DisplayVersion}
use Rattle.clap.proofs.OnLiterals.{clap_on_literals}
use Rattle.shell.specs.CommandLine.{betr, is_on, number, rows, text}

abbrev bare : List Text
bare = codes "betr" ∷ []

abbrev full : List Text
full = codes "betr" ∷ codes "--steps" ∷ codes "7" ∷ codes "--fanout=+4" ∷ codes "--image" ∷ codes "x" ∷ []

bare_is_taken : takes betr bare ≡ true
unfolding clap_on_literals betr
bare_is_taken = refl

fanout_by_default : number (codes "fanout") 16 bare ≡ 16
unfolding clap_on_literals betr rows
fanout_by_default = refl

no_image : is_on (codes "image") bare ≡ false
unfolding clap_on_literals betr rows
no_image = refl

no_script : text (codes "SCRIPT") bare ≡ None
unfolding clap_on_literals betr rows
no_script = refl

full_is_taken : takes betr full ≡ true
unfolding clap_on_literals betr
full_is_taken = refl

steps_given : number (codes "steps") 0 full ≡ 7
unfolding clap_on_literals betr rows
steps_given = refl

fanout_given : number (codes "fanout") 16 full ≡ 4
unfolding clap_on_literals betr rows
fanout_given = refl

image_given : is_on (codes "image") full ≡ true
unfolding clap_on_literals betr rows
image_given = refl

script_given : text (codes "SCRIPT") full ≡ Some (codes "x")
unfolding clap_on_literals betr rows
script_given = refl

too_many_steps : takes betr (codes "betr" ∷ codes "--steps" ∷ codes "1001" ∷ []) ≡ false
unfolding clap_on_literals betr
too_many_steps = refl

too_small_a_fanout : takes betr (codes "betr" ∷ codes "--fanout" ∷ codes "3" ∷ []) ≡ false
unfolding clap_on_literals betr
too_small_a_fanout = refl

version_is_reported : fault_of betr (codes "betr" ∷ codes "--version" ∷ []) ≡ DisplayVersion ∷ []
unfolding clap_on_literals betr
version_is_reported = refl
