-- The versions of certificates. Version 2 names the shape of its module.
use Rattle.std.specs.Prelude.{Bool, true, ◌&&◌, ◌==◌, nat_le, length}
use Rattle.module_code.specs.Program.{Program}
use Rattle.life_check.specs.declared.version.CertVersion.{CertVersion}
use Rattle.life_check.specs.declared.version.CertVersion.TheVariants as version

-- the numbers that a text may name
abbrev pub is_in_range : CertVersion → Bool
is_in_range version.One = true
is_in_range (version.Two pools brigades code) = nat_le pools 8 && nat_le brigades 8 && nat_le 1 code && nat_le code 1024

-- the shape that is named, if one is, is the module's
abbrev pub names_shape : Program → CertVersion → Bool
names_shape p version.One = true
names_shape p (version.Two pools brigades code) = (pools == length p.pools) && (brigades == length p.brigades) && (code == length p.code)

-- version 2 of this module
abbrev pub version_two : Program → CertVersion
version_two p = version.Two (length p.pools) (length p.brigades) (length p.code)
