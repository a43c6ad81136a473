-- What is written of a place reads as that place.
use Rattle.std.proofs.Common.{refl}
use Rattle.rules.specs.declared.Place.TheVariants.{None as none, M, R, N, F, V}
use Rattle.session.specs.Places.{Inverse}

pub inverse : Inverse
inverse none e = search e
inverse (M i) e = refl
inverse (R i) e = refl
inverse (N i) e = refl
inverse (F i) e = refl
inverse (V i) e = refl
