-- The measure is the value: a tenth is less, where it has two digits or more.
use Rattle.playback.proofs.+decimal.Given as goal

abbrev pub decreases-decimal : goal.decreases-decimal
decreases-decimal l = l.value
