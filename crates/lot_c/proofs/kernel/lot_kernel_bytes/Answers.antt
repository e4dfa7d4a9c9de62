-- The bytes of the kernel's box, and those that the kernel requests.
use Rattle.lot_c.proofs.Common.{ap, arith, bytes_of, refl, ◌∙◌}
use Rattle.lot_c.proofs.kernel.lot_kernel_bytes.Goals as goal

pub returns-in-Some : goal.returns-in-Some
returns-in-Some c = record {
  limits = λ outside. absurd (outside (c.in-Some.ensures.some.0 refl));
  bytes =
      λ within. (c.code-in-Some.ensures, omega (arith, c.bytes.ensures.bytes ∙ ap bytes_of c.in-Some.ensures.sizes));
}
