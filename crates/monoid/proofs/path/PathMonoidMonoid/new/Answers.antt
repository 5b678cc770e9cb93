use Rattle.std.proofs.Common.{◌≡◌, ◌+◌, ◌*◌, ◌^◌, ◌<◌, arith}
use lib.Bits.{bit_and}
use lib.Count.{ones}
use Rattle.monoid.specs.PathTags.{bit, tag}
use Rattle.monoid.proofs.Words.{bits_of, ones_16, ones_32, ones_64, words_of, segments_of, t0, t1, t2, t3}
use Rattle.monoid.proofs.path.PathMonoidMonoid.new.Goals as goal

pub returns : goal.returns
returns c =
    let w = c.args.tag_word in
    let h : w < 2 ^ 32 = omega arith in
    let transforms = bits_of 32 (omega arith) (λ n. bit 5 (tag n)) ones_32 w h in
    let segments = segments_of w h in
    let words = words_of w h in
    let style : ones (bit_and w 0x40404040) * 2 ≡ 2 * bit 6 (tag (t0 w)) + (2 * bit 6 (tag (t1 w)) + (2 * bit 6 (tag (t2 w)) + (2 * bit 6 (tag (t3 w)) + 0))) =
    omega (arith, bits_of 64 (omega arith) (λ n. bit 6 (tag n)) ones_64 w h) in
    let paths = bits_of 16 (omega arith) (λ n. bit 4 (tag n)) ones_16 w h in
    cc
