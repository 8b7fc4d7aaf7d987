mod Pages
mod Forms
mod Whole
