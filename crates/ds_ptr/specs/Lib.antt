pub mod PtrBlock
