use Rattle.frame_pictures.proofs.PixelPlaces.{pictures_are_their_pixels}
use Rattle.frame_pictures.proofs.laws.pictures_are_their_pixels.Goals as goal

pub returns : goal.returns
returns c = pictures_are_their_pixels
